-- A token of each terminal.
use Rattle.std.proofs.Common.{◌≡◌, Bool, true, false, List, ℕ, refl}
use lib.Chars.{codes}
use Rattle.bj_token.specs.declared.token.TokenKind.{TokenKind}
use Rattle.bj_token.specs.declared.token.TokenKind.TheVariants as kinds
use Rattle.bj_token.specs.declared.token.Token.{Token}
use Rattle.bj_grammar.specs.declared.terminal.Terminal.{Terminal}
use Rattle.bj_grammar.specs.declared.terminal.Terminal.TheVariants as t
use Rattle.bj_grammar.specs.Terminal.{keyword_spelling, sign_spelling, terminal, same_terminal}

abbrev pub is_token : Terminal → Bool
is_token t.Other = false
is_token _ = true

abbrev pub kind_for : Terminal → TokenKind
kind_for t.Word = kinds.Word
kind_for t.Number = kinds.Number
kind_for t.LeastNumber = kinds.Number
kind_for t.LongNumber = kinds.LongNumber
kind_for t.LeastLong = kinds.LongNumber
kind_for t.CharText = kinds.CharText
kind_for t.StringText = kinds.StringText
kind_for t.Abstract = kinds.Keyword
kind_for t.Boolean = kinds.Keyword
kind_for t.Break = kinds.Keyword
kind_for t.Case = kinds.Keyword
kind_for t.Catch = kinds.Keyword
kind_for t.Char = kinds.Keyword
kind_for t.Class = kinds.Keyword
kind_for t.Continue = kinds.Keyword
kind_for t.Default = kinds.Keyword
kind_for t.Do = kinds.Keyword
kind_for t.Else = kinds.Keyword
kind_for t.Extends = kinds.Keyword
kind_for t.Final = kinds.Keyword
kind_for t.Finally = kinds.Keyword
kind_for t.For = kinds.Keyword
kind_for t.If = kinds.Keyword
kind_for t.Implements = kinds.Keyword
kind_for t.Import = kinds.Keyword
kind_for t.InstanceOf = kinds.Keyword
kind_for t.Int = kinds.Keyword
kind_for t.Interface = kinds.Keyword
kind_for t.Long = kinds.Keyword
kind_for t.New = kinds.Keyword
kind_for t.Private = kinds.Keyword
kind_for t.Protected = kinds.Keyword
kind_for t.Public = kinds.Keyword
kind_for t.Return = kinds.Keyword
kind_for t.Static = kinds.Keyword
kind_for t.Super = kinds.Keyword
kind_for t.Switch = kinds.Keyword
kind_for t.Synchronized = kinds.Keyword
kind_for t.This = kinds.Keyword
kind_for t.Throw = kinds.Keyword
kind_for t.Throws = kinds.Keyword
kind_for t.Try = kinds.Keyword
kind_for t.Void = kinds.Keyword
kind_for t.Volatile = kinds.Keyword
kind_for t.While = kinds.Keyword
kind_for t.True = kinds.Keyword
kind_for t.False = kinds.Keyword
kind_for t.Null = kinds.Keyword
kind_for _ = kinds.Sign

abbrev pub units_for : Terminal → List ℕ
units_for t.Word = codes "a"
units_for t.Number = codes "0"
units_for t.LeastNumber = codes "2147483648"
units_for t.LongNumber = codes "0L"
units_for t.LeastLong = codes "9223372036854775808L"
units_for t.CharText = codes "'a'"
units_for t.StringText = codes "a"
units_for t.Abstract = keyword_spelling t.Abstract
units_for t.Boolean = keyword_spelling t.Boolean
units_for t.Break = keyword_spelling t.Break
units_for t.Case = keyword_spelling t.Case
units_for t.Catch = keyword_spelling t.Catch
units_for t.Char = keyword_spelling t.Char
units_for t.Class = keyword_spelling t.Class
units_for t.Continue = keyword_spelling t.Continue
units_for t.Default = keyword_spelling t.Default
units_for t.Do = keyword_spelling t.Do
units_for t.Else = keyword_spelling t.Else
units_for t.Extends = keyword_spelling t.Extends
units_for t.Final = keyword_spelling t.Final
units_for t.Finally = keyword_spelling t.Finally
units_for t.For = keyword_spelling t.For
units_for t.If = keyword_spelling t.If
units_for t.Implements = keyword_spelling t.Implements
units_for t.Import = keyword_spelling t.Import
units_for t.InstanceOf = keyword_spelling t.InstanceOf
units_for t.Int = keyword_spelling t.Int
units_for t.Interface = keyword_spelling t.Interface
units_for t.Long = keyword_spelling t.Long
units_for t.New = keyword_spelling t.New
units_for t.Private = keyword_spelling t.Private
units_for t.Protected = keyword_spelling t.Protected
units_for t.Public = keyword_spelling t.Public
units_for t.Return = keyword_spelling t.Return
units_for t.Static = keyword_spelling t.Static
units_for t.Super = keyword_spelling t.Super
units_for t.Switch = keyword_spelling t.Switch
units_for t.Synchronized = keyword_spelling t.Synchronized
units_for t.This = keyword_spelling t.This
units_for t.Throw = keyword_spelling t.Throw
units_for t.Throws = keyword_spelling t.Throws
units_for t.Try = keyword_spelling t.Try
units_for t.Void = keyword_spelling t.Void
units_for t.Volatile = keyword_spelling t.Volatile
units_for t.While = keyword_spelling t.While
units_for t.True = keyword_spelling t.True
units_for t.False = keyword_spelling t.False
units_for t.Null = keyword_spelling t.Null
units_for x = sign_spelling x

abbrev pub make : Terminal → Token
make x = record { kind = kind_for x; at = record { line = 1; column = 1 }; text = units_for x }

pub made : (x : Terminal) → is_token x ≡ true → terminal (make x) ≡ x
unfolding terminal same_terminal
made t.Other e = absurd (cc)
made t.Word e = refl
made t.Number e = refl
made t.LeastNumber e = refl
made t.LongNumber e = refl
made t.LeastLong e = refl
made t.CharText e = refl
made t.StringText e = refl
made t.Abstract e = refl
made t.Boolean e = refl
made t.Break e = refl
made t.Case e = refl
made t.Catch e = refl
made t.Char e = refl
made t.Class e = refl
made t.Continue e = refl
made t.Default e = refl
made t.Do e = refl
made t.Else e = refl
made t.Extends e = refl
made t.Final e = refl
made t.Finally e = refl
made t.For e = refl
made t.If e = refl
made t.Implements e = refl
made t.Import e = refl
made t.InstanceOf e = refl
made t.Int e = refl
made t.Interface e = refl
made t.Long e = refl
made t.New e = refl
made t.Private e = refl
made t.Protected e = refl
made t.Public e = refl
made t.Return e = refl
made t.Static e = refl
made t.Super e = refl
made t.Switch e = refl
made t.Synchronized e = refl
made t.This e = refl
made t.Throw e = refl
made t.Throws e = refl
made t.Try e = refl
made t.Void e = refl
made t.Volatile e = refl
made t.While e = refl
made t.True e = refl
made t.False e = refl
made t.Null e = refl
made t.LeftParen e = refl
made t.RightParen e = refl
made t.LeftBrace e = refl
made t.RightBrace e = refl
made t.LeftBracket e = refl
made t.RightBracket e = refl
made t.Semicolon e = refl
made t.Comma e = refl
made t.Dot e = refl
made t.At e = refl
made t.Assign e = refl
made t.Greater e = refl
made t.Less e = refl
made t.Not e = refl
made t.Complement e = refl
made t.Question e = refl
made t.Colon e = refl
made t.Equal e = refl
made t.AtMost e = refl
made t.AtLeast e = refl
made t.Unequal e = refl
made t.Both e = refl
made t.Either e = refl
made t.Increment e = refl
made t.Decrement e = refl
made t.Plus e = refl
made t.Minus e = refl
made t.Times e = refl
made t.Slash e = refl
made t.And e = refl
made t.Or e = refl
made t.Caret e = refl
made t.Percent e = refl
made t.ShiftLeft e = refl
made t.ShiftRight e = refl
made t.ShiftZero e = refl
made t.PlusAssign e = refl
made t.MinusAssign e = refl
made t.TimesAssign e = refl
made t.SlashAssign e = refl
made t.AndAssign e = refl
made t.OrAssign e = refl
made t.CaretAssign e = refl
made t.PercentAssign e = refl
made t.LeftAssign e = refl
made t.RightAssign e = refl
made t.ZeroAssign e = refl
