-- The parts of a file, each checked as it stands, beside its grammar.
use Rattle.std.proofs.Common.{◌≡◌, ℕ, true, false, List, [], ◌∷◌, ◌++◌, Option, Some, None, refl, sym, ap, subst}
use Rattle.bj_base.specs.declared.span.Span.{Span}
use Rattle.bj_token.specs.declared.token.Token.{Token}
use Rattle.bj_tree.specs.declared.class.ClassKind.{ClassKind}
use Rattle.bj_tree.specs.declared.class.ImportTree.{ImportTree}
use Rattle.bj_tree.specs.declared.member.MemberTree.{MemberTree}
use Rattle.bj_rules.specs.declared.misfit.Misfit.{Misfit}
use Rattle.bj_rules.specs.Rules.{import_misfit, member_misfit}
use Rattle.bj_grammar.specs.declared.terminal.Terminal.TheVariants as t
use Rattle.bj_grammar.specs.Terminal.{terminal, same_terminal}
use Rattle.bj_grammar.specs.Reader.{Text, Found, Wrong, Over}
use Rattle.bj_grammar.specs.Given.{text_of, place_of}
use Rattle.bj_grammar.proofs.Laws as laws_of
use Rattle.bj_grammar.proofs.Laws.{Rel, Laws, Then, Same, Steps, is_kind}
use Rattle.bj_expr.specs.Reading.{is}
use Rattle.bj_stmt.specs.Reading.{inside}
use Rattle.bj_stmt.proofs.Expressions.{Never}
use Rattle.bj_stmt.proofs.Small.{Any}
use Rattle.bj_class.specs.declared.head.ClassHead.{ClassHead}
use Rattle.bj_class.specs.Grammar as g
use Rattle.bj_class.specs.Grammar.{Imports, Import, Head, Members, Member, File}
use Rattle.bj_class.specs.Deep.{DeepMember, DeepMembers}
use Rattle.bj_class.specs.Reading as r
use Rattle.bj_parse.specs.Checked.{Reads, Misfits, unless_misfit, check_import, check_member, nothing_early}
use Rattle.bj_parse.specs.Early.{early_member}
use Rattle.bj_parse.specs.Class.{ImportsFit, MembersFit}
use Rattle.bj_parse.proofs.EarlyNeeded.{Early, UnfitOfMember}
use Rattle.bj_parse.proofs.Items.{IsHalted, Items, reads_is}

-- what is asked of the readers of the parts
pub record Parts (place : ℕ → Span) (most room : ℕ) : Type 1 where
  pub import_laws : Laws most (r.import_at place most) (λ s a i j. Import place s a i j) Any Never
  pub imports_laws : Laws most (r.imports place most) (λ s a i j. Imports place s a i j) (λ a x. same_terminal x t.Import ≡ false) Never
  pub head_laws : Laws most (r.head place most) (λ s a i j. Head place s a i j) Any Never
  pub member_laws : Laws most (r.member place most room) (λ s a i j. Member place s a i j) Any (DeepMember room)
  pub file_laws : (file : List ℕ) → Laws most (r.file_at place most room file) (λ s a i j. File file place s a i j) Any (λ at a. DeepMembers room at a.members)
  pub import_begins : (s : Text) (a : ImportTree) (i j : ℕ) → Import place s a i j → terminal (s i) ≡ t.Import
  pub head_begins : (s : Text) (a : ClassHead) (i j : ℕ) → Head place s a i j → same_terminal (terminal (s i)) t.Import ≡ false
  pub member_begins : (s : Text) (a : MemberTree) (i j : ℕ) → Member place s a i j → inside (terminal (s i)) ≡ true
  pub import_steps : (s : Text) (a : List ImportTree) (i j : ℕ) → Imports place s a i j → Steps (λ b. Then (λ s a i j. Import place s a i j) (λ c. Same (b ++ c ∷ []))) s [] a i j
  pub member_steps : (s : Text) (a : List MemberTree) (i j : ℕ) → Members place s a i j → Steps (λ b. Then (λ s a i j. Member place s a i j) (λ c. Same (b ++ c ∷ []))) s [] a i j

-- ---- checks

pub misfit_found : {A : Type 0} (o : Option Misfit) (a b : A) (j n : ℕ) → unless_misfit o a j ≡ Reads (Found b n) → (b ≡ a) × (n ≡ j) × (o ≡ None)
misfit_found None a b j n e = let same : Found a j ≡ Found b n = reads_is _ _ e in let at = ap laws_of.stop same in (cc, sym at, refl)
misfit_found (Some x) a b j n e = absurd (cc)

pub misfit_wrong : {A : Type 0} (o : Option Misfit) (a : A) (j n : ℕ) → unless_misfit o a j ≡ Reads (Wrong n) → ⊥
misfit_wrong None a j n e = absurd (cc)
misfit_wrong (Some x) a j n e = absurd (cc)

pub misfit_is : {A : Type 0} (o : Option Misfit) (a : A) (j : ℕ) (x : Misfit) → unless_misfit o a j ≡ Misfits x → o ≡ Some x
misfit_is None a j x e = absurd (cc)
misfit_is (Some y) a j x e = let same : y ≡ x = cc in ap Some same

pub misfit_no_over : {A : Type 0} (o : Option Misfit) (a : A) (j n : ℕ) (at : Span) → unless_misfit o a j ≡ Reads (Over n at) → ⊥
misfit_no_over None a j n at e = absurd (cc)
misfit_no_over (Some x) a j n at e = absurd (cc)

pub misfit_fit : {A : Type 0} (o : Option Misfit) (a : A) (j : ℕ) → o ≡ None → unless_misfit o a j ≡ Reads (Found a j)
misfit_fit o a j e = ap (λ (o : Option Misfit). unless_misfit o a j) e

pub misfit_met : {A : Type 0} (o : Option Misfit) (a : A) (j : ℕ) (x : Misfit) → o ≡ Some x → IsHalted (unless_misfit o a j)
misfit_met o a j x e = subst (λ (o : Option Misfit). IsHalted (unless_misfit o a j)) (sym e) tt

-- ---- what fits

imports_end : (b : List ImportTree) (a : ImportTree) → ImportsFit b → import_misfit a ≡ None → ImportsFit (b ++ a ∷ [])
imports_end [] a h e = (e, tt)
imports_end (x ∷ b) a h e = (h.0, imports_end b a h.1 e)

imports_before : (b : List ImportTree) (a : ImportTree) → ImportsFit (b ++ a ∷ []) → ImportsFit b
imports_before [] a h = tt
imports_before (x ∷ b) a h = (h.0, imports_before b a h.1)

imports_last : (b : List ImportTree) (a : ImportTree) → ImportsFit (b ++ a ∷ []) → import_misfit a ≡ None
imports_last [] a h = h.0
imports_last (x ∷ b) a h = imports_last b a h.1

members_end : (kind : ClassKind) (class : List ℕ) (b : List MemberTree) (a : MemberTree) → MembersFit kind class b → member_misfit kind class a ≡ None → MembersFit kind class (b ++ a ∷ [])
members_end kind class [] a h e = (e, tt)
members_end kind class (x ∷ b) a h e = (h.0, members_end kind class b a h.1 e)

members_before : (kind : ClassKind) (class : List ℕ) (b : List MemberTree) (a : MemberTree) → MembersFit kind class (b ++ a ∷ []) → MembersFit kind class b
members_before kind class [] a h = tt
members_before kind class (x ∷ b) a h = (h.0, members_before kind class b a h.1)

members_last : (kind : ClassKind) (class : List ℕ) (b : List MemberTree) (a : MemberTree) → MembersFit kind class (b ++ a ∷ []) → member_misfit kind class a ≡ None
members_last kind class [] a h = h.0
members_last kind class (x ∷ b) a h = members_last kind class b a h.1

-- ---- the parts

module _ (tokens : List Token) (most room : ℕ) (parts : Parts (place_of tokens) most room) (early : Early tokens most room) where
  abbrev P : ℕ → Span
  P = place_of tokens

  abbrev S : Text
  S = text_of tokens

  abbrev ImportRel : Rel ImportTree
  ImportRel = λ s a i j. Import P s a i j

  abbrev MemberRel : Rel MemberTree
  MemberRel = λ s a i j. Member P s a i j

  abbrev AreImports : List ImportTree → ℕ → Type 0
  AreImports b i = Imports P S b 0 i

  abbrev ImportMis : ImportTree → Misfit → Type 0
  ImportMis a x = import_misfit a ≡ Some x

  abbrev ImportFits : ImportTree → Type 0
  ImportFits a = import_misfit a ≡ None

  abbrev NeverBegun : ℕ → Misfit → Type 0
  NeverBegun i x = ⊥

  pub import_items : Items most (is t.Import) (r.import_at P most) check_import nothing_early S ImportRel Never AreImports ImportFits ImportsFit ImportMis NeverBegun
  import_items = record {
    laws = parts.import_laws;
    begins = λ a i j d. is_kind _ _ (parts.import_begins S a i j d);
    next = λ b a i j st d. g.next_import st d refl;
    check_found = λ a b j n e. misfit_found (import_misfit a) a b j n e;
    check_wrong = λ a j n e. misfit_wrong (import_misfit a) a j n e;
    check_misfit = λ a j x e. misfit_is (import_misfit a) a j x e;
    check_over = λ a j n at e. misfit_no_over (import_misfit a) a j n at e;
    check_fit = λ a j e. misfit_fit (import_misfit a) a j e;
    check_met = λ a j x e. misfit_met (import_misfit a) a j x e;
    fit_end = imports_end;
    fit_before = imports_before;
    fit_last = imports_last;
    early_is = λ i n x is e. absurd (cc);
    begun_met = λ i n x h is. absurd h;
    begun_whole = λ i a j x h d. absurd h;
    begun_begins = λ i x h. absurd h;
  }

  module _ (h : ClassHead) (start : ℕ) where
    abbrev AreMembers : List MemberTree → ℕ → Type 0
    AreMembers b i = Members P S b start i

    abbrev mis_of : MemberTree → Option Misfit
    mis_of a = member_misfit h.kind h.name.name a

    abbrev MemberMis : MemberTree → Misfit → Type 0
    MemberMis a x = mis_of a ≡ Some x

    abbrev MemberFits : MemberTree → Type 0
    MemberFits a = mis_of a ≡ None

    abbrev AllFit : List MemberTree → Type 0
    AllFit b = MembersFit h.kind h.name.name b

    abbrev MemberBegun : ℕ → Misfit → Type 0
    MemberBegun i x = UnfitOfMember tokens h.kind i x

    pub member_items : Items most inside (r.member P most room) (check_member h) (early_member P most h.kind S) S MemberRel (DeepMember room) AreMembers MemberFits AllFit MemberMis MemberBegun
    member_items = record {
      laws = parts.member_laws;
      begins = λ a i j d. parts.member_begins S a i j d;
      next = λ b a i j st d. g.next_member st d refl;
      check_found = λ a b j n e. misfit_found (mis_of a) a b j n e;
      check_wrong = λ a j n e. misfit_wrong (mis_of a) a j n e;
      check_misfit = λ a j x e. misfit_is (mis_of a) a j x e;
      check_over = λ a j n at e. misfit_no_over (mis_of a) a j n at e;
      check_fit = λ a j e. misfit_fit (mis_of a) a j e;
      check_met = λ a j x e. misfit_met (mis_of a) a j x e;
      fit_end = members_end h.kind h.name.name;
      fit_before = members_before h.kind h.name.name;
      fit_last = members_last h.kind h.name.name;
      early_is = early.member_early h.kind;
      begun_met = early.member_met h.kind;
      begun_whole = λ i a j x b d. early.member_whole h.kind h.name.name i j a x b d;
      begun_begins = early.member_begins h.kind;
    }
