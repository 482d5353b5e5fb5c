-- The readers of types and of pairs of brackets.
use Rattle.std.proofs.Common.{◌≡◌, ℕ, suc, ◌⊎◌, inl, inr, true, false, refl, sym, subst, arith, le_refl}
use Rattle.bj_base.specs.declared.span.Span.{Span}
use Rattle.bj_expr_tree.specs.declared.types.TypeTree.{TypeTree}
use Rattle.bj_grammar.specs.declared.terminal.Terminal.{Terminal}
use Rattle.bj_grammar.specs.declared.terminal.Terminal.TheVariants as t
use Rattle.bj_grammar.specs.Terminal.{terminal, same_terminal, among}
use Rattle.bj_grammar.specs.Reader.{Text}
use Rattle.bj_expr.specs.Grammar as g
use Rattle.bj_expr.specs.Grammar.{type_words, type_tree, one_more, Dims, TypeAt}
use Rattle.bj_expr.specs.Reading as r
use Rattle.bj_expr.specs.Reading.{is}
use Rattle.bj_grammar.proofs.Laws.{Rel, Laws, Then, Same, Word, Operator, Steps, done, loop_laws, pure_laws, steps_end, steps_fold, is_kind, seq, tok, op, start, renamed}
use Rattle.bj_expr.proofs.Facts.{tokens_of}
use Rattle.bj_expr.proofs.LawLemmas.{same_after, Never}

pub type_word : (among type_words t.Word ≡ true) × (among type_words t.Other ≡ false)
unfolding same_terminal
type_word = (refl, refl)

-- what may stand behind a type
abbrev pub AfterType : Terminal → Type 0
AfterType x = same_terminal x t.LeftBracket ≡ false

-- a pair of brackets, after so many
abbrev pub Pair : ℕ → Rel ℕ
Pair n = Word t.LeftBracket (λ _. Word t.RightBracket (λ _. Same (one_more n)))

-- the pairs behind so many
abbrev pub Pairs : ℕ → Rel ℕ
Pairs n = λ s a i j. Steps Pair s n a i j

pub pairs_laws : (most n : ℕ) → Laws most (r.pairs most n) (Pairs n) (λ _ x. AfterType x) Never
unfolding r.pairs r.pair
pairs_laws most n = renamed (Pairs n) (λ _ x. AfterType x)
    (loop_laws most (is t.LeftBracket) r.pair Pair (λ _ _. Unit {0}) Never
    (λ k. tok t.LeftBracket refl (λ _. tok t.RightBracket refl (λ _. pure_laws most (one_more k) (λ _ _. Unit {0}) Never)))
    (λ s x a i j d. is_kind _ _ d.kind) (λ s x a i j d. let e = d.rest.rest.at in omega arith) (λ s x a i j d. tt) (λ s x a i j d at h. h) most (le_refl most) n)
    (λ s a i j d. d) (λ s a i j d. d) (λ a x e. (tt, e))

abbrev DimsRel : Rel ℕ
DimsRel = λ s a i j. Dims s a i j

pub to_dims : (s : Text) (a i j : ℕ) → Pairs 0 s a i j → Dims s a i j
to_dims s a i j d = steps_fold Pair DimsRel s i (λ b c m k h o. g.pair h o.kind o.rest.kind o.rest.rest.tree o.rest.rest.at) 0 a i j (g.no_pair refl refl) d

pub from_dims : (s : Text) {a i j : ℕ} → Dims s a i j → Pairs 0 s a i j
from_dims s (g.no_pair e at) = done e at
from_dims s {a} {i} {j} (g.pair {b} {m} d o o2 e at) =
    steps_end Pair s 0 b a i m j (from_dims s d) (record { kind = o; rest = record { kind = o2; rest = record { tree = e; at = at } } })

module _ (place : ℕ → Span) (most : ℕ) where
  pub dims_laws : Laws most (r.dims place most) (λ s a i j. Dims s a i j) (λ _ x. AfterType x) Never
  unfolding r.dims
  dims_laws = renamed DimsRel (λ _ x. AfterType x) (pairs_laws most 0) to_dims (λ s a i j d. from_dims s d) (λ a x e. e)

  abbrev TypeRel : Rel TypeTree
  TypeRel = λ s a i j. TypeAt place s a i j

  abbrev NamedRel : ℕ → Rel TypeTree
  NamedRel i = Operator (among type_words) (λ v. Then DimsRel (λ n. Same (type_tree (place i) v n)))

  to_type : (s : Text) (a : TypeTree) (i j : ℕ) → NamedRel i s a i j → TypeAt place s a i j
  to_type s a i j d = g.named d.kind (subst (λ (m : ℕ). Dims s d.rest.part (suc i) m) (sym d.rest.rest.at) d.rest.first) d.rest.rest.tree

  from_type : (s : Text) {a : TypeTree} {i j : ℕ} → TypeAt place s a i j → NamedRel i s a i j
  from_type s {j} (g.named {n} o d e) = record { kind = o; rest = record { part = n; at = j; first = d; rest = record { tree = e; at = refl } } }

  pub type_laws : Laws most (r.type_at place most) (λ s a i j. TypeAt place s a i j) (λ _ x. AfterType x) Never
  unfolding r.type_at
  type_laws = renamed TypeRel (λ _ x. AfterType x)
      (start {D = NamedRel} (λ i. op {Q = λ v. Then DimsRel (λ n. Same (type_tree (place i) v n))} (among type_words) t.Word refl type_word.0 (tokens_of type_words type_word.1)
      (λ v. seq dims_laws (λ n. pure_laws most (type_tree (place i) v n) (λ _ x. AfterType x) Never)
      (λ s n m b j d last. same_after AfterType s _ b m j d last) (λ s n m b j d at h. h))))
      to_type (λ s a i j d. from_type s d) (λ a x e. e)

-- pairs of brackets begin with one, or there are none
pub dims_begin : (s : Text) {a i j : ℕ} → Dims s a i j → (j ≡ i) ⊎ ((terminal (s i) ≡ t.LeftBracket) × (terminal (s (suc i)) ≡ t.RightBracket))
dims_begin s (g.no_pair e at) = inl at
dims_begin s {i} {j} (g.pair {m} d o o2 e at) = of (dims_begin s d)
  where
    of : (m ≡ i) ⊎ ((terminal (s i) ≡ t.LeftBracket) × (terminal (s (suc i)) ≡ t.RightBracket)) → (j ≡ i) ⊎ ((terminal (s i) ≡ t.LeftBracket) × (terminal (s (suc i)) ≡ t.RightBracket))
    of (inl h) = inr (subst (λ (k : ℕ). (terminal (s k) ≡ t.LeftBracket) × (terminal (s (suc k)) ≡ t.RightBracket)) h (o, o2))
    of (inr h) = inr h
