-- What reading the Java text of a console line comes to, as the reply.
use Rattle.std.specs.Prelude.{◌≡◌, ◌⊎◌, ℕ, Bool, true, false, if◌then◌else◌, List, [], ◌∷◌, ◌++◌, Err, codes, decimal}
use Rattle.bj_base.specs.declared.span.Span.{Span}
use Rattle.bj_base.specs.declared.fault.Fault.{Fault}
use Rattle.bj_base.specs.declared.fault.FaultCode.{FaultCode}
use Rattle.bj_base.specs.declared.fault.FaultCode.TheVariants as code
use Rattle.bj_base.specs.declared.fault.Refusal.TheVariants as refusal
use Rattle.bj_token.specs.declared.token.Token.{Token}
use Rattle.bj_token.specs.declared.token.TokenKind.TheVariants.{Keyword}
use Rattle.bj_token.specs.declared.token.Tokens.{Tokens}
use Rattle.bj_lex.specs.Texts.{IsFirstFault, ReadsAs}
use Rattle.bj_expr_tree.specs.declared.expr.ExprTree.{ExprTree, Call', MethodCall', SuperCall', New'}
use Rattle.bj_tree.specs.declared.line.LineTree.{LineTree}
use Rattle.bj_tree.specs.declared.line.LineTree.TheVariants.{Expr, Stmts}
use Rattle.bj_line.specs.Line.{IsLine, FaultAt}
use Rattle.bj_reading.specs.declared.text.JavaText.{JavaText}
use Rattle.bj_reading.specs.declared.text.JavaText.TheVariants.{Line, Call, Creation}

-- ---- how a fault is told

-- the word of a code is its name in lower case
abbrev pub code_word : FaultCode → List ℕ
code_word code.Char = codes "char"
code_word code.Open = codes "open"
code_word code.Wide = codes "wide"
code_word code.Syntax = codes "syntax"
code_word code.Profile = codes "profile"
code_word code.Deep = codes "deep"
code_word code.Large = codes "large"
code_word code.File = codes "file"
code_word code.Twice = codes "twice"
code_word code.Cycle = codes "cycle"
code_word code.Missing = codes "missing"
code_word code.Override = codes "override"
code_word code.Name = codes "name"
code_word code.Types = codes "types"
code_word code.Ambiguous = codes "ambiguous"
code_word code.Access = codes "access"
code_word code.Static = codes "static"
code_word code.Final = codes "final"
code_word code.Abstract = codes "abstract"
code_word code.Jump = codes "jump"
code_word code.Case = codes "case"
code_word code.Junit = codes "junit"
code_word code.Unreachable = codes "unreachable"
code_word code.Unassigned = codes "unassigned"
code_word code.Uncaught = codes "uncaught"
code_word code.Return = codes "return"

-- the reply that tells a fault, with its line and its column
abbrev pub fault_reply : Span → FaultCode → List ℕ
fault_reply at code = codes "= fault " ++ (decimal at.line ++ (codes ":" ++ (decimal at.column ++ (codes " " ++ code_word code))))

abbrev pub not_built : List ℕ
not_built = codes "= not built"

-- ---- the tokens that are parsed

-- where the first token stands, or the end of the text where there is none
abbrev pub first_of : List Token → Span → Span
first_of [] end = end
first_of (token ∷ tokens) end = token.at

abbrev pub first_place : Tokens → Span
first_place tokens = first_of tokens.items tokens.end

-- the keyword `new`
abbrev pub new_token : Span → Token
new_token at = record { kind = Keyword; at = at; text = codes "new" }

-- The text of a creation is read with a `new` before it, which stands where its first token does [JLS 15.9].
abbrev pub parsed : JavaText → Tokens → Tokens
parsed Creation tokens = record { class = tokens.class; items = new_token (first_place tokens) ∷ tokens.items; end = tokens.end }
parsed form tokens = tokens

-- ---- what may stand where

-- a call of a method [JLS 15.12]
abbrev pub is_call : ExprTree → Bool
is_call (Call' at name p args) = true
is_call (MethodCall' at p target name q args) = true
is_call (SuperCall' at name p args) = true
is_call _ = false

-- a creation of an object [JLS 15.9]
abbrev pub is_creation : ExprTree → Bool
is_creation (New' at class p args) = true
is_creation _ = false

-- behind `call` stands a call, behind `new x` a creation; a line may be anything
abbrev pub is_of_form : JavaText → LineTree → Bool
is_of_form Line tree = true
is_of_form Call (Expr a) = is_call a
is_of_form Call (Stmts b) = false
is_of_form Creation (Expr a) = is_creation a
is_of_form Creation (Stmts b) = false

-- ---- the reply

-- The text has a fault within its tokens, and the first one is told.
pub record IsLexicalReply (bytes reply : List ℕ) : Type 0 where
  pub fault : Fault
  pub first : IsFirstFault [] bytes (refusal.Fault fault)
  pub told : reply ≡ fault_reply fault.at fault.code

-- The tokens are no line, or one that is too deep, and the parser's fault is told.
pub record IsParserReply (form : JavaText) (tokens : Tokens) (reply : List ℕ) : Type 0 where
  pub fault : Fault
  pub faulty : FaultAt (Err (refusal.Fault fault)) (parsed form tokens)
  pub told : reply ≡ fault_reply fault.at fault.code

-- The tokens are a line: one that may stand there is not built, and another one is a fault at the first token of the text.
pub record IsTreeReply (form : JavaText) (tokens : Tokens) (reply : List ℕ) : Type 0 where
  pub tree : LineTree
  pub line : IsLine (parsed form tokens).items tree
  pub told : reply ≡ (if is_of_form form tree then not_built else fault_reply (first_place tokens) code.Syntax)

-- The text has these tokens, and the reply is that of what they are.
pub record IsTokensReply (form : JavaText) (bytes reply : List ℕ) : Type 0 where
  pub tokens : Tokens
  pub of_console : tokens.class ≡ []
  pub read : ReadsAs bytes tokens.items tokens.end
  pub replied : IsParserReply form tokens reply ⊎ IsTreeReply form tokens reply

-- What is replied to the Java text of a console line, by its bytes. Places count from its first character. No text has two replies,
-- but where a node has too many above it, and several have: then the place is that of one of them.
abbrev pub IsReadingReply : JavaText → List ℕ → List ℕ → Type 0
IsReadingReply form bytes reply = IsLexicalReply bytes reply ⊎ IsTokensReply form bytes reply
