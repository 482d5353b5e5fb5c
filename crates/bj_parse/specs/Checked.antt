-- The reader of files, which checks each part as it stands, as a function on texts.
use Rattle.std.specs.Prelude.{◌≡◌, ℕ, zero, suc, Bool, if◌then◌else◌, List, [], ◌∷◌, ◌++◌, Option, Some, None, Result, Ok, Err}
use Rattle.bj_base.specs.declared.span.Span.{Span}
use Rattle.bj_tree.specs.declared.class.ImportTree.{ImportTree}
use Rattle.bj_tree.specs.declared.class.ClassTree.{ClassTree}
use Rattle.bj_tree.specs.declared.member.MemberTree.{MemberTree}
use Rattle.bj_rules.specs.declared.misfit.Misfit.{Misfit}
use Rattle.bj_rules.specs.Rules.{import_misfit, head_misfit, member_misfit}
use Rattle.bj_grammar.specs.declared.stop.Stop.TheVariants as f
use Rattle.bj_grammar.specs.declared.terminal.Terminal.{Terminal}
use Rattle.bj_grammar.specs.declared.terminal.Terminal.TheVariants as t
use Rattle.bj_grammar.specs.Terminal.{terminal}
use Rattle.bj_grammar.specs.Reader.{Text, Answer, Found, Wrong, Over, Parser, over, nowhere, here, sign, pure}
use Rattle.bj_grammar.specs.Given.{IsDeepAt}
use Rattle.bj_expr.specs.Reading.{is}
use Rattle.bj_stmt.specs.Reading.{inside}
use Rattle.bj_class.specs.declared.head.ClassHead.{ClassHead}
use Rattle.bj_class.specs.Grammar.{class_tree}
use Rattle.bj_class.specs.Reading.{import_at, head, member}
use Rattle.bj_parse.specs.Early.{early_member, early_head}
use Rattle.bj_parse.specs.declared.halt.Halt.{Halt}
use Rattle.bj_parse.specs.declared.halt.Halt.TheVariants as halts

-- what a reader comes to, or the first part that is not as the profile asks
pub data Checked (A : Type 0) : Type 0 where
  Reads : Answer A → Checked A
  Misfits : Misfit → Checked A

abbrev pub then_checked : {A B : Type 0} → Checked A → (A → ℕ → Checked B) → Checked B
then_checked (Reads (Found a j)) f = f a j
then_checked (Reads (Wrong k)) f = Reads (Wrong k)
then_checked (Reads (Over k at)) f = Reads (Over k at)
then_checked (Misfits x) f = Misfits x

-- a part that was read, unless it is a misfit
abbrev pub unless_misfit : {A : Type 0} → Option Misfit → A → ℕ → Checked A
unless_misfit None a j = Reads (Found a j)
unless_misfit (Some x) a j = Misfits x

-- the place where the grammar stops a part, unless a misfit stands before it
abbrev pub unless_early : {A : Type 0} → Option Misfit → ℕ → Checked A
unless_early None k = Reads (Wrong k)
unless_early (Some x) k = Misfits x

-- A part is checked where it was read. Where the grammar stops it, it is asked for a misfit that stands before that place.
abbrev pub checked_part : {A : Type 0} → (A → ℕ → Checked A) → (ℕ → Option Misfit) → Answer A → Checked A
checked_part check early (Found a j) = check a j
checked_part check early (Wrong k) = unless_early (early k) k
checked_part check early (Over k at) = Reads (Over k at)

-- parts while the next token passes the test, each checked as it stands
unfoldable pub checked_items : {A : Type 0} → (Terminal → Bool) → Parser A → (A → ℕ → Checked A) → (ℕ → ℕ → Option Misfit) → Text → ℕ → List A → ℕ → Checked (List A)
checked_items test item check early s zero b i = if test (terminal (s i)) then Reads (over (λ _. nowhere) s i) else Reads (Found b i)
checked_items test item check early s (suc n) b i = if test (terminal (s i)) then then_checked (checked_part check (early i) (item s i)) (λ a j. checked_items test item check early s n (b ++ a ∷ []) j) else Reads (Found b i)

-- ---- the parts of a file

abbrev pub check_import : ImportTree → ℕ → Checked ImportTree
check_import a j = unless_misfit (import_misfit a) a j

abbrev pub check_head : ClassHead → ℕ → Checked ClassHead
check_head h j = unless_misfit (head_misfit h.annotations h.modifiers h.kind) h j

abbrev pub check_member : ClassHead → MemberTree → ℕ → Checked MemberTree
check_member h a j = unless_misfit (member_misfit h.kind h.name.name a) a j

-- an import is judged as a whole alone
abbrev pub nothing_early : ℕ → ℕ → Option Misfit
nothing_early i k = None

module _ (place : ℕ → Span) (steps room : ℕ) where
  abbrev pub checked_imports : Text → ℕ → List ImportTree → ℕ → Checked (List ImportTree)
  checked_imports s = checked_items (is t.Import) (import_at place steps) check_import nothing_early s

  abbrev pub checked_head : Text → ℕ → Checked ClassHead
  checked_head s i = checked_part check_head (early_head place steps s i) (head place steps s i)

  abbrev pub checked_members : ClassHead → Text → ℕ → List MemberTree → ℕ → Checked (List MemberTree)
  checked_members h s = checked_items inside (member place steps room) (check_member h) (early_member place steps h.kind s) s

  -- the closing brace, behind all members
  abbrev pub closed : List ℕ → List ImportTree → ClassHead → List MemberTree → Parser ClassTree
  closed file is h ms = here (λ o. sign t.RightBrace (pure (class_tree file is h ms (place o))))

  abbrev pub checked_body : List ℕ → List ImportTree → ClassHead → Text → ℕ → Checked ClassTree
  checked_body file is h s i = then_checked (checked_members h s steps [] i) (λ ms n. Reads (closed file is h ms s n))

  unfoldable pub checked_file : List ℕ → Text → Checked ClassTree
  checked_file file s = then_checked (checked_imports s steps [] 0) (λ is k. then_checked (checked_head s k) (λ h n. checked_body file is h s n))

-- ---- what the functions that read give

-- the limit of depth is passed by a node that stands there
abbrev pub IsDeepChecked : {A : Type 0} → Span → Checked A → Type 0
IsDeepChecked at (Reads r) = IsDeepAt at r
IsDeepChecked at (Misfits x) = ⊥

abbrev pub HaltsAs : {A : Type 0} → Halt → Checked A → Type 0
HaltsAs (halts.Stopped f.Memory) r = Unit {0}
HaltsAs (halts.Stopped (f.Syntax at)) r = r ≡ Reads (Wrong at)
HaltsAs (halts.Stopped (f.Deep at)) r = IsDeepChecked at r
HaltsAs (halts.Unfit x) r = r ≡ Misfits x

-- what a function returned is what the reader comes to, unless memory ran out
abbrev pub GivesChecked : {A : Type 0} → Result (A × ℕ) Halt → Checked A → Type 0
GivesChecked (Ok found) r = r ≡ Reads (Found found.0 found.1)
GivesChecked (Err e) r = HaltsAs e r
