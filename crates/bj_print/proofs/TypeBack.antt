-- Printed types and pairs of brackets are read again.
use Rattle.std.proofs.Common.{◌≡◌, ℕ, zero, suc, ◌+◌, ◌≤◌, true, List, ◌++◌, refl, sym, ap, ◌∙◌, subst, arith}
use Rattle.std.specs.Prelude.{codes}
use Rattle.std.proofs.Math.Nat.{min-le_right, min-eq_left}
use Rattle.bj_base.specs.declared.span.Span.{Span}
use Rattle.bj_token.specs.declared.token.TokenKind.TheVariants as kinds
use Rattle.bj_token.specs.declared.token.Token.{Token}
use Rattle.bj_lex.specs.Grammar.{Spelled}
use Rattle.bj_expr_tree.specs.declared.types.TypeName.{TypeName}
use Rattle.bj_expr_tree.specs.declared.types.TypeTree.{TypeTree}
use Rattle.bj_grammar.specs.Terminal.{terminal, among}
use Rattle.bj_grammar.specs.Reader.{Text}
use Rattle.bj_expr.specs.Grammar as g
use Rattle.bj_expr.specs.Grammar.{type_words, type_tree, one_more, Dims, TypeAt}
use Rattle.bj_layout.specs.Exprs.{pairs}
use Rattle.bj_print.specs.Same.{nowhere}
use Rattle.bj_print.proofs.Holds.{Holds, ends, Back, terminal_is}
use Rattle.bj_print.proofs.ExprLaws.{SameType}
use Rattle.bj_print.proofs.ExprTokens.{pair_tokens, type_tokens}
use Rattle.bj_print.proofs.PrintedOperators.{type_mark, type_mark_first, type_printed, among_again}
use Rattle.bj_print.proofs.Found.{FoundType}
use Rattle.bj_print.proofs.Again.{Reads, Mark, reads_mark, reads_as, respelled}

-- ---- pairs of brackets

pub dims_bound : (s : Text) (n i j : ℕ) → Dims s n i j → n ≤ 4294967295
dims_bound s n i j (g.no_pair none at) = omega arith
dims_bound s n i j (g.pair {b} d o c more at) = subst (λ (n : ℕ). n ≤ 4294967295) (sym more) (min-le_right (suc b) 4294967295)

-- so many pairs more, behind some
more_pairs : (t : Text) (c b k m : ℕ) → c + b ≤ 4294967295 → Dims t b k m → Holds t m (pair_tokens c) → Dims t (c + b) k (ends m (pair_tokens c))
more_pairs t zero b k m fits d h = let same : b ≡ zero + b = omega arith in subst (λ (n : ℕ). Dims t n k m) same d
more_pairs t (suc c) b k m fits d h =
    let same : c + suc b ≡ suc c + b = omega arith in
    let one : suc b ≡ one_more b = sym (min-eq_left (omega arith)) in
    let further = g.pair d (terminal_is (t m) kinds.Sign (codes "[") h.0) (terminal_is (t (suc m)) kinds.Sign (codes "]") h.1.0) one refl in
    subst (λ (n : ℕ). Dims t n k (ends m (pair_tokens (suc c)))) same (more_pairs t c (suc b) k (suc (suc m)) (omega arith) further h.1.1)

pub dims_again : {s t : Text} {n i j : ℕ} → Dims s n i j → Reads t (pair_tokens n) (Dims t n)
dims_again {s} {t} {n} {i} {j} d = record {
  read = λ k h.
      let bound = dims_bound s n i j d in
      let same : n + 0 ≡ n = omega arith in
      subst (λ (m : ℕ). Dims t m k (ends k (pair_tokens n))) same (more_pairs t n 0 k k (omega arith) (g.no_pair refl refl) h);
}

-- ---- types

-- a token that names the type again, and what is behind it
pub record TypeWord (t : Text) (n : TypeName) (G : ℕ → ℕ → Type 0) (k j : ℕ) : Type 0 where
  pub kind : among type_words (terminal (t k)) ≡ true
  pub name : g.type_name (terminal (t k)) (t k).text ≡ n
  pub rest : G (suc k) j

abbrev name_of : Token → TypeName
name_of x = g.type_name (terminal x) x.text

type_word_again : (t : Text) (x : Token) (G : ℕ → ℕ → Type 0) (k j : ℕ) → among type_words (terminal x) ≡ true → Mark t (type_mark (name_of x)) G k j → TypeWord t (name_of x) G k j
type_word_again t x G k j o h =
    let same = type_printed (terminal x) o x.text (t k) h.token in
    record { kind = among_again type_words (terminal x) (terminal (t k)) same.0 o; name = ap (λ v. g.type_name v (t k).text) same.0 ∙ same.1; rest = h.rest }

pub reads_type_word : {t : Text} {G : ℕ → ℕ → Type 0} (w : List Spelled) (at : Span) (x : Token) (n : ℕ) → among type_words (terminal x) ≡ true → Reads t (pair_tokens n ++ w) G
    → Reads t (type_tokens (type_tree at x n) ++ w) (TypeWord t (name_of x) G)
reads_type_word {t} {G} w at x n o f = respelled (ap (λ v. v ++ w) (type_mark_first (name_of x) (pairs n))) (reads_as (reads_mark (type_mark (name_of x)) f) (λ k j h. type_word_again t x G k j o h))

reads_type_alone : {t : Text} {G : ℕ → ℕ → Type 0} (at : Span) (x : Token) (n : ℕ) → among type_words (terminal x) ≡ true → Reads t (pair_tokens n) G → Reads t (type_tokens (type_tree at x n)) (TypeWord t (name_of x) G)
reads_type_alone {t} {G} at x n o f = respelled (type_mark_first (name_of x) (pairs n)) (reads_as (reads_mark (type_mark (name_of x)) f) (λ k j h. type_word_again t x G k j o h))

-- types of the same name with as many pairs of brackets
pub same_type : (at at2 : Span) (x y : Token) (n : ℕ) → name_of y ≡ name_of x → SameType (type_tree at2 y n) (type_tree at x n)
same_type at at2 x y n e = ap (λ (name : TypeName). let ty : TypeTree = record { at = nowhere; name = name; dims = n } in ty) e

module _ (place : ℕ → Span) (s : Text) (other : ℕ → Span) (t : Text) where
  type_named : (at : Span) (x : Token) (n k j : ℕ) → TypeWord t (name_of x) (Dims t n) k j → Back (TypeAt other t) SameType (type_tree at x n) k j
  type_named at x n k j h = record { tree = type_tree (other k) (t k) n; stands = g.named h.kind h.rest refl; same = same_type at (other k) x (t k) n h.name }

  pub type_again : {a : TypeTree} {i j : ℕ} → TypeAt place s a i j → FoundType other t a
  type_again {i = i} (g.named {n = n} o d is) =
      subst (FoundType other t) (sym is)
      (reads_as (reads_type_alone (place i) (s i) n o (dims_again d)) (λ k j h. type_named (place i) (s i) n k j h))
