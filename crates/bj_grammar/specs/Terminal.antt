-- The terminal symbols of the grammar, and which one a token is.
use Rattle.std.specs.Prelude.{ℕ, Bool, true, false, ◌||◌, if◌then◌else◌, List, [], ◌∷◌, not}
use Rattle.std.specs.List.{filter}
use Rattle.std.specs.Str.{bytes_eq}
use lib.Chars.{codes}
use lib.Dec.{eqb}
use denote.Enum.Bare.{sameb}
use Rattle.bj_token.specs.declared.token.TokenKind.{TokenKind}
use Rattle.bj_token.specs.declared.token.TokenKind.TheVariants as kinds
use Rattle.bj_token.specs.declared.token.Token.{Token}
use Rattle.bj_grammar.specs.declared.terminal.Terminal.{Terminal}
use Rattle.bj_grammar.specs.declared.terminal.Terminal.TheVariants as t
use Rattle.bj_grammar.specs.contracts.terminal.Terminal.{the_type}

-- `==` on terminals
unfoldable pub same_terminal : Terminal → Terminal → Bool
same_terminal = sameb the_type

-- whether a terminal is in a list
abbrev pub among : List Terminal → Terminal → Bool
among [] x = false
among (k ∷ ks) x = same_terminal x k || among ks x

-- how a keyword is spelled [JLS 3.9]
abbrev pub keyword_spelling : Terminal → List ℕ
keyword_spelling t.Abstract = codes "abstract"
keyword_spelling t.Boolean = codes "boolean"
keyword_spelling t.Break = codes "break"
keyword_spelling t.Case = codes "case"
keyword_spelling t.Catch = codes "catch"
keyword_spelling t.Char = codes "char"
keyword_spelling t.Class = codes "class"
keyword_spelling t.Continue = codes "continue"
keyword_spelling t.Default = codes "default"
keyword_spelling t.Do = codes "do"
keyword_spelling t.Else = codes "else"
keyword_spelling t.Extends = codes "extends"
keyword_spelling t.Final = codes "final"
keyword_spelling t.Finally = codes "finally"
keyword_spelling t.For = codes "for"
keyword_spelling t.If = codes "if"
keyword_spelling t.Implements = codes "implements"
keyword_spelling t.Import = codes "import"
keyword_spelling t.InstanceOf = codes "instanceof"
keyword_spelling t.Int = codes "int"
keyword_spelling t.Interface = codes "interface"
keyword_spelling t.Long = codes "long"
keyword_spelling t.New = codes "new"
keyword_spelling t.Private = codes "private"
keyword_spelling t.Protected = codes "protected"
keyword_spelling t.Public = codes "public"
keyword_spelling t.Return = codes "return"
keyword_spelling t.Static = codes "static"
keyword_spelling t.Super = codes "super"
keyword_spelling t.Switch = codes "switch"
keyword_spelling t.Synchronized = codes "synchronized"
keyword_spelling t.This = codes "this"
keyword_spelling t.Throw = codes "throw"
keyword_spelling t.Throws = codes "throws"
keyword_spelling t.Try = codes "try"
keyword_spelling t.Void = codes "void"
keyword_spelling t.Volatile = codes "volatile"
keyword_spelling t.While = codes "while"
keyword_spelling t.True = codes "true"
keyword_spelling t.False = codes "false"
keyword_spelling t.Null = codes "null"
keyword_spelling _ = []

-- how a sign is spelled [JLS 3.11, 3.12]
abbrev pub sign_spelling : Terminal → List ℕ
sign_spelling t.LeftParen = codes "("
sign_spelling t.RightParen = codes ")"
sign_spelling t.LeftBrace = codes "{"
sign_spelling t.RightBrace = codes "}"
sign_spelling t.LeftBracket = codes "["
sign_spelling t.RightBracket = codes "]"
sign_spelling t.Semicolon = codes ";"
sign_spelling t.Comma = codes ","
sign_spelling t.Dot = codes "."
sign_spelling t.At = codes "@"
sign_spelling t.Assign = codes "="
sign_spelling t.Greater = codes ">"
sign_spelling t.Less = codes "<"
sign_spelling t.Not = codes "!"
sign_spelling t.Complement = codes "~"
sign_spelling t.Question = codes "?"
sign_spelling t.Colon = codes ":"
sign_spelling t.Equal = codes "=="
sign_spelling t.AtMost = codes "<="
sign_spelling t.AtLeast = codes ">="
sign_spelling t.Unequal = codes "!="
sign_spelling t.Both = codes "&&"
sign_spelling t.Either = codes "||"
sign_spelling t.Increment = codes "++"
sign_spelling t.Decrement = codes "--"
sign_spelling t.Plus = codes "+"
sign_spelling t.Minus = codes "-"
sign_spelling t.Times = codes "*"
sign_spelling t.Slash = codes "/"
sign_spelling t.And = codes "&"
sign_spelling t.Or = codes "|"
sign_spelling t.Caret = codes "^"
sign_spelling t.Percent = codes "%"
sign_spelling t.ShiftLeft = codes "<<"
sign_spelling t.ShiftRight = codes ">>"
sign_spelling t.ShiftZero = codes ">>>"
sign_spelling t.PlusAssign = codes "+="
sign_spelling t.MinusAssign = codes "-="
sign_spelling t.TimesAssign = codes "*="
sign_spelling t.SlashAssign = codes "/="
sign_spelling t.AndAssign = codes "&="
sign_spelling t.OrAssign = codes "|="
sign_spelling t.CaretAssign = codes "^="
sign_spelling t.PercentAssign = codes "%="
sign_spelling t.LeftAssign = codes "<<="
sign_spelling t.RightAssign = codes ">>="
sign_spelling t.ZeroAssign = codes ">>>="
sign_spelling _ = []

abbrev pub spelling : Bool → Terminal → List ℕ
spelling as_sign k = if as_sign then sign_spelling k else keyword_spelling k

abbrev pub keywords : List Terminal
keywords = t.Abstract ∷ t.Boolean ∷ t.Break ∷ t.Case ∷ t.Catch ∷ t.Char ∷ t.Class ∷ t.Continue ∷ t.Default ∷ t.Do ∷ t.Else ∷ t.Extends ∷ t.Final ∷ t.Finally ∷ t.For ∷ t.If ∷ t.Implements ∷ t.Import ∷ t.InstanceOf ∷ t.Int ∷ t.Interface ∷ t.Long ∷ t.New ∷ t.Private ∷ t.Protected ∷ t.Public ∷ t.Return ∷ t.Static ∷ t.Super ∷ t.Switch ∷ t.Synchronized ∷ t.This ∷ t.Throw ∷ t.Throws ∷ t.Try ∷ t.Void ∷ t.Volatile ∷ t.While ∷ t.True ∷ t.False ∷ t.Null ∷ []

abbrev pub signs : List Terminal
signs = t.LeftParen ∷ t.RightParen ∷ t.LeftBrace ∷ t.RightBrace ∷ t.LeftBracket ∷ t.RightBracket ∷ t.Semicolon ∷ t.Comma ∷ t.Dot ∷ t.At ∷ t.Assign ∷ t.Greater ∷ t.Less ∷ t.Not ∷ t.Complement ∷ t.Question ∷ t.Colon ∷ t.Equal ∷ t.AtMost ∷ t.AtLeast ∷ t.Unequal ∷ t.Both ∷ t.Either ∷ t.Increment ∷ t.Decrement ∷ t.Plus ∷ t.Minus ∷ t.Times ∷ t.Slash ∷ t.And ∷ t.Or ∷ t.Caret ∷ t.Percent ∷ t.ShiftLeft ∷ t.ShiftRight ∷ t.ShiftZero ∷ t.PlusAssign ∷ t.MinusAssign ∷ t.TimesAssign ∷ t.SlashAssign ∷ t.AndAssign ∷ t.OrAssign ∷ t.CaretAssign ∷ t.PercentAssign ∷ t.LeftAssign ∷ t.RightAssign ∷ t.ZeroAssign ∷ []

-- the first of the terminals that is spelled so
abbrev pub spelled : Bool → List Terminal → List ℕ → Terminal
spelled as_sign [] text = t.Other
spelled as_sign (k ∷ ks) text = if bytes_eq text (spelling as_sign k) then k else spelled as_sign ks text

-- the digits of a number, which may have underscores between them [JLS 3.10.1]
abbrev pub digits : List ℕ → List ℕ
digits text = filter (λ unit. not (eqb unit 95)) text

abbrev pub int_terminal : List ℕ → Terminal
int_terminal text = if bytes_eq (digits text) (codes "2147483648") then t.LeastNumber else t.Number

abbrev pub long_terminal : List ℕ → Terminal
long_terminal text = if bytes_eq (digits text) (codes "9223372036854775808L") || bytes_eq (digits text) (codes "9223372036854775808l") then t.LeastLong else t.LongNumber

abbrev pub terminal_by : TokenKind → List ℕ → Terminal
terminal_by kinds.Word text = t.Word
terminal_by kinds.Keyword text = spelled false keywords text
terminal_by kinds.Number text = int_terminal text
terminal_by kinds.LongNumber text = long_terminal text
terminal_by kinds.CharText text = t.CharText
terminal_by kinds.StringText text = t.StringText
terminal_by kinds.Sign text = spelled true signs text

-- the terminal that a token is
unfoldable pub terminal : Token → Terminal
terminal token = terminal_by token.kind token.text
