-- What the laws of files ask of the judgement on annotations and modifiers of a part that goes wrong.
use Rattle.std.proofs.Common.{◌≡◌, ℕ, List, false, true, Some}
use Rattle.bj_base.specs.declared.span.Span.{Span}
use Rattle.bj_token.specs.declared.token.Token.{Token}
use Rattle.bj_tree.specs.declared.class.ClassKind.{ClassKind}
use Rattle.bj_tree.specs.declared.member.MemberTree.{MemberTree}
use Rattle.bj_rules.specs.declared.misfit.Misfit.{Misfit}
use Rattle.bj_rules.specs.Rules.{head_misfit, member_misfit}
use Rattle.bj_grammar.specs.declared.terminal.Terminal.TheVariants as t
use Rattle.bj_grammar.specs.Terminal.{terminal, same_terminal}
use Rattle.bj_grammar.specs.Reader.{Wrong}
use Rattle.bj_grammar.specs.Given.{text_of, place_of}
use Rattle.bj_grammar.proofs.Laws.{Rel}
use Rattle.bj_stmt.specs.Reading.{inside}
use Rattle.bj_class.specs.declared.head.ClassHead.{ClassHead}
use Rattle.bj_class.specs.Grammar.{Head, Member}
use Rattle.bj_class.specs.Reading as r
use Rattle.bj_parse.specs.Early.{early_head, early_member}
use Rattle.bj_parse.specs.Marks.{UnfitMark, head_place, member_place}

abbrev pub HeadRel : (ℕ → Span) → Rel ClassHead
HeadRel place = λ s h i j. Head place s h i j

abbrev pub MemberRel : (ℕ → Span) → Rel MemberTree
MemberRel place = λ s a i j. Member place s a i j

-- a mark of what stands before members does not fit, from n on
abbrev pub UnfitOfHead : List Token → ℕ → Misfit → Type 0
UnfitOfHead tokens n x = UnfitMark (HeadRel (place_of tokens)) head_place (place_of tokens) (text_of tokens) n x

-- a mark of a member does not fit, from n on
abbrev pub UnfitOfMember : List Token → ClassKind → ℕ → Misfit → Type 0
UnfitOfMember tokens kind n x = UnfitMark (MemberRel (place_of tokens)) (member_place kind) (place_of tokens) (text_of tokens) n x

pub record Early (tokens : List Token) (most room : ℕ) : Type 0 where
  -- what is told early does not fit
  pub head_early : (n k : ℕ) (x : Misfit) → r.head (place_of tokens) most (text_of tokens) n ≡ Wrong k → early_head (place_of tokens) most (text_of tokens) n k ≡ Some x → UnfitOfHead tokens n x
  -- what does not fit is told early, where the part goes wrong, or else of the whole part
  pub head_met : (n k : ℕ) (x : Misfit) → UnfitOfHead tokens n x → r.head (place_of tokens) most (text_of tokens) n ≡ Wrong k → (y : Misfit) × (early_head (place_of tokens) most (text_of tokens) n k ≡ Some y)
  pub head_whole : (n j : ℕ) (h : ClassHead) (x : Misfit) → UnfitOfHead tokens n x → Head (place_of tokens) (text_of tokens) h n j → (y : Misfit) × (head_misfit h.annotations h.modifiers h.kind ≡ Some y)
  pub head_begins : (n : ℕ) (x : Misfit) → UnfitOfHead tokens n x → same_terminal (terminal (text_of tokens n)) t.Import ≡ false
  pub member_early : (kind : ClassKind) (n k : ℕ) (x : Misfit) → r.member (place_of tokens) most room (text_of tokens) n ≡ Wrong k → early_member (place_of tokens) most kind (text_of tokens) n k ≡ Some x → UnfitOfMember tokens kind n x
  pub member_met : (kind : ClassKind) (n k : ℕ) (x : Misfit) → UnfitOfMember tokens kind n x → r.member (place_of tokens) most room (text_of tokens) n ≡ Wrong k → (y : Misfit) × (early_member (place_of tokens) most kind (text_of tokens) n k ≡ Some y)
  pub member_whole : (kind : ClassKind) (class : List ℕ) (n j : ℕ) (a : MemberTree) (x : Misfit) → UnfitOfMember tokens kind n x → Member (place_of tokens) (text_of tokens) a n j → (y : Misfit) × (member_misfit kind class a ≡ Some y)
  pub member_begins : (kind : ClassKind) (n : ℕ) (x : Misfit) → UnfitOfMember tokens kind n x → inside (terminal (text_of tokens n)) ≡ true
