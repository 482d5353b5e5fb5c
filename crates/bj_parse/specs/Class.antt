-- What the tokens of a file are, and what reading one promises.
use Rattle.std.specs.Prelude.{◌≡◌, ℕ, suc, ◌≤◌, Bool, ◌&&◌, ◌||◌, not, if◌then◌else◌, ◌⊎◌, List, [], ◌∷◌, length, Some, None, Result, Ok, Err}
use Rattle.bj_base.specs.declared.span.Span.{Span}
use Rattle.bj_base.specs.declared.fault.FaultCode.{FaultCode}
use Rattle.bj_base.specs.declared.fault.FaultCode.TheVariants as codes
use Rattle.bj_base.specs.declared.fault.Refusal.{Refusal}
use Rattle.bj_base.specs.declared.fault.Refusal.TheVariants as refusals
use Rattle.bj_token.specs.declared.token.Token.{Token}
use Rattle.bj_token.specs.declared.token.Tokens.{Tokens}
use Rattle.bj_tree.specs.declared.class.ClassKind.{ClassKind}
use Rattle.bj_tree.specs.declared.class.ImportTree.{ImportTree}
use Rattle.bj_tree.specs.declared.class.ClassTree.{ClassTree}
use Rattle.bj_tree.specs.declared.member.MemberTree.{MemberTree}
use Rattle.bj_rules.specs.declared.misfit.Misfit.{Misfit}
use Rattle.bj_rules.specs.Rules.{import_misfit, head_misfit, member_misfit}
use Rattle.bj_grammar.specs.declared.stop.Stop.TheVariants as stops
use Rattle.bj_grammar.specs.declared.terminal.Terminal.TheVariants as t
use Rattle.bj_grammar.specs.Terminal.{terminal, same_terminal, among}
use Rattle.bj_grammar.specs.Reader.{Text}
use Rattle.bj_grammar.specs.Given.{text_of, place_of}
use Rattle.bj_expr.specs.Grammar.{leasts}
use Rattle.bj_class.specs.declared.head.ClassHead.{ClassHead}
use Rattle.bj_class.specs.Grammar.{Imports, Import, Head, Members, Member, File, modifier_words}
use Rattle.bj_class.specs.Deep.{HighMembers, DeepMembers}
use Rattle.bj_line.specs.Line.{most_nodes, SameBefore, DeepAt, back, class_words, is_left_out, spot}
use Rattle.bj_parse.specs.Marks.{member_place, head_place, UnfitMark}
use Rattle.bj_parse.specs.Checked.{Checked, IsDeepChecked, checked_file}
use Rattle.bj_parse.specs.declared.halt.Halt.{Halt}
use Rattle.bj_parse.specs.declared.halt.Halt.TheVariants as halts

-- The tokens, all of them, are the file with its class [JLS 7.3]. Trees have the places of the first list.
abbrev pub IsFile : List ℕ → List Token → List Token → ClassTree → Type 0
IsFile file places tokens a = File file (place_of places) (text_of tokens) a 0 (length tokens)

-- ---- what fits

abbrev pub ImportsFit : List ImportTree → Type 0
ImportsFit [] = Unit {0}
ImportsFit (a ∷ rest) = (import_misfit a ≡ None) × ImportsFit rest

abbrev pub HeadFits : ClassHead → Type 0
HeadFits h = head_misfit h.annotations h.modifiers h.kind ≡ None

abbrev pub MembersFit : ClassKind → List ℕ → List MemberTree → Type 0
MembersFit kind class [] = Unit {0}
MembersFit kind class (a ∷ rest) = (member_misfit kind class a ≡ None) × MembersFit kind class rest

-- each part of a file is as the profile asks
pub record Fits (a : ClassTree) : Type 0 where
  pub imports : ImportsFit a.imports
  pub head : head_misfit a.annotations a.modifiers a.kind ≡ None
  pub members : MembersFit a.kind a.name.name a.members

-- The tokens are a file of the grammar whose parts are as the profile asks, and none of which is too deep.
pub record IsClass (file : List ℕ) (tokens : List Token) (a : ClassTree) : Type 0 where
  pub stands : IsFile file tokens tokens a
  pub fits : Fits a
  pub low : HighMembers most_nodes a.members → ⊥

-- ---- the first part that does not fit

-- The parts before it stand and fit, and it stands behind them: it is the first that does not fit. It is a part that stands whole, or an annotation
-- or a modifier of one that goes wrong behind it.
pub data FirstMisfit (tokens : List Token) (x : Misfit) : Type 0 where
  of_import : {is : List ImportTree} {a : ImportTree} {i j : ℕ} → Imports (place_of tokens) (text_of tokens) is 0 i → ImportsFit is → Import (place_of tokens) (text_of tokens) a i j → import_misfit a ≡ Some x
      → FirstMisfit tokens x
  of_head : {is : List ImportTree} {h : ClassHead} {i j : ℕ} → Imports (place_of tokens) (text_of tokens) is 0 i → ImportsFit is → Head (place_of tokens) (text_of tokens) h i j
      → head_misfit h.annotations h.modifiers h.kind ≡ Some x → FirstMisfit tokens x
  of_member : {is : List ImportTree} {h : ClassHead} {ms : List MemberTree} {a : MemberTree} {i k n j : ℕ} → Imports (place_of tokens) (text_of tokens) is 0 i → ImportsFit is
      → Head (place_of tokens) (text_of tokens) h i k → HeadFits h → Members (place_of tokens) (text_of tokens) ms k n → MembersFit h.kind h.name.name ms → Member (place_of tokens) (text_of tokens) a n j
      → member_misfit h.kind h.name.name a ≡ Some x → FirstMisfit tokens x
  of_mark_of_head : {is : List ImportTree} {i : ℕ} → Imports (place_of tokens) (text_of tokens) is 0 i → ImportsFit is
      → UnfitMark (λ s h i j. Head (place_of tokens) s h i j) head_place (place_of tokens) (text_of tokens) i x → FirstMisfit tokens x
  of_mark_of_member : {is : List ImportTree} {h : ClassHead} {ms : List MemberTree} {i k n : ℕ} → Imports (place_of tokens) (text_of tokens) is 0 i → ImportsFit is
      → Head (place_of tokens) (text_of tokens) h i k → HeadFits h → Members (place_of tokens) (text_of tokens) ms k n → MembersFit h.kind h.name.name ms
      → UnfitMark (λ s a i j. Member (place_of tokens) s a i j) (member_place h.kind) (place_of tokens) (text_of tokens) n x → FirstMisfit tokens x

-- ---- the first fault of the grammar

abbrev pub InFiles : List ℕ → List Token → List Token → Type 0
InFiles file places tokens = (a : ClassTree) × IsFile file places tokens a

-- The first token with which the tokens so far begin no file of the grammar; the end counts as a token. Some tokens that begin with
-- those before the place are a file; none that begin with those and the one at the place are one.
pub record FirstFault (file : List ℕ) (tokens : List Token) (at : ℕ) : Type 0 where
  pub begins : (others : List Token) × (at ≤ length others) × SameBefore tokens others at × InFiles file tokens others
  pub no_more : (others : List Token) → SameBefore tokens others (suc at) → InFiles file tokens others → ⊥

-- The tokens before some place begin a file of the grammar, and in each file of the tokens that go on from these, and from the five behind them, a
-- node at the span has more than 200 nodes above it in its body or initializer.
abbrev pub TooDeep : List ℕ → List Token → Span → Type 0
TooDeep file tokens at = DeepAt (IsFile file tokens) (λ node a. DeepMembers most_nodes node a.members) tokens at

-- ---- the codes of faults

-- a class within a class [JLS 8.5], behind modifiers or an annotation
abbrev pub is_nested_class : Text → ℕ → Bool
is_nested_class s at = among class_words (terminal (s at)) && (among modifier_words (back s at 1) || (same_terminal (back s at 1) t.Word && same_terminal (back s at 2) t.At))

-- `default` before a method [JLS 9.4]
abbrev pub is_default : Text → ℕ → Bool
is_default s at = same_terminal (terminal (s at)) t.Default && not (same_terminal (terminal (s (suc at))) t.Colon)

-- the code of a fault at a token that the grammar does not take within a file
abbrev pub member_code : Text → ℕ → FaultCode
member_code s at = if among leasts (terminal (s at)) then codes.Wide else (if is_left_out s at || (is_nested_class s at || is_default s at) then codes.Profile else codes.Syntax)

-- the tokens before a place are a file, so that what stands there stands behind its class
abbrev pub IsBehind : List ℕ → List Token → ℕ → Type 0
IsBehind file tokens at = (a : ClassTree) × File file (place_of tokens) (text_of tokens) a 0 at

-- behind a class nothing stands, so that each token is a fault of syntax
abbrev pub IsCoded : List ℕ → List Token → ℕ → FaultCode → Type 0
IsCoded file tokens at code = (IsBehind file tokens at × (code ≡ codes.Syntax)) ⊎ ((IsBehind file tokens at → ⊥) × (code ≡ member_code (text_of tokens) at))

-- what reading the parts of a file comes to, each checked as it stands
abbrev pub the_file : Tokens → Checked ClassTree
the_file tokens = checked_file (place_of tokens.items) (suc (length tokens.items)) most_nodes tokens.class (text_of tokens.items)

-- ---- what reading promises

abbrev pub GivesClass : Result ClassTree Refusal → ClassTree → Type 0
GivesClass (Ok tree) a = tree ≡ a
GivesClass (Err refusals.NoMemory) a = Unit {0}
GivesClass (Err (refusals.Fault fault)) a = ⊥

-- The first token that does not fit, with its code, where each part before it, and each annotation and modifier of its own part, is as the profile asks.
pub record IsFirst (tokens : Tokens) (at : Span) (code : FaultCode) : Type 0 where
  pub index : ℕ
  pub first : FirstFault tokens.class tokens.items index
  pub place : at ≡ spot tokens index
  pub coded : IsCoded tokens.class tokens.items index code
  pub fits : (x : Misfit) → FirstMisfit tokens.items x → ⊥

abbrev pub ClassFault : Result ClassTree Refusal → Tokens → Type 0
ClassFault (Ok tree) tokens = Unit {0}
ClassFault (Err refusals.NoMemory) tokens = Unit {0}
ClassFault (Err (refusals.Fault fault)) tokens = (fault.class ≡ tokens.class)
    × (((fault.code ≡ codes.Deep) × IsDeepChecked fault.at (the_file tokens) × TooDeep tokens.class tokens.items fault.at) ⊎ (FirstMisfit tokens.items (record { at = fault.at; code = fault.code }) ⊎ IsFirst tokens fault.at fault.code))

-- the refusal is of what reading halts at, unless memory ran out
abbrev pub IsRefusalOf : Tokens → Halt → Refusal → Type 0
IsRefusalOf tokens halt refusals.NoMemory = Unit {0}
IsRefusalOf tokens (halts.Stopped stops.Memory) (refusals.Fault fault) = ⊥
IsRefusalOf tokens (halts.Stopped (stops.Syntax at)) (refusals.Fault fault) = (fault.class ≡ tokens.class) × (fault.at ≡ spot tokens at) × (fault.code ≡ member_code (text_of tokens.items) at)
IsRefusalOf tokens (halts.Stopped (stops.Deep at)) (refusals.Fault fault) = (fault.class ≡ tokens.class) × (fault.at ≡ at) × (fault.code ≡ codes.Deep)
IsRefusalOf tokens (halts.Unfit misfit) (refusals.Fault fault) = (fault.class ≡ tokens.class) × (fault.at ≡ misfit.at) × (fault.code ≡ misfit.code)
