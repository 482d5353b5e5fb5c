-- Steps that the laws of members share: a rule that ends with its tree, and one that begins with a name.
use Rattle.std.proofs.Common.{◌≡◌, ℕ, suc, refl, sym, subst}
use Rattle.bj_base.specs.declared.span.Span.{Span}
use Rattle.bj_expr_tree.specs.declared.types.NamedPlace.{NamedPlace}
use Rattle.bj_grammar.specs.declared.terminal.Terminal.TheVariants as t
use Rattle.bj_grammar.specs.Terminal.{terminal}
use Rattle.bj_grammar.specs.Reader.{Text}
use Rattle.bj_grammar.proofs.Laws.{Rel, Then, Same}
use Rattle.bj_stmt.specs.Grammar.{named}
use Rattle.bj_stmt.proofs.Small.{NameAt}

-- ---- a rule that ends with the tree which it makes of its last part

module _ {A B : Type 0} (P : Rel A) (f : A → B) where
  pub record Made (s : Text) (b : B) (i j : ℕ) : Type 0 where
    pub part : A
    pub first : P s part i j
    pub tree : b ≡ f part

  pub take_end : (s : Text) (b : B) (i j : ℕ) → Then P (λ x. Same (f x)) s b i j → Made s b i j
  take_end s b i j d = record { part = d.part; first = subst (λ (z : ℕ). P s d.part i z) (sym d.rest.at) d.first; tree = d.rest.tree }

  pub put_end : (s : Text) (x : A) (b : B) (i j : ℕ) → P s x i j → b ≡ f x → Then P (λ x. Same (f x)) s b i j
  put_end s x b i j d e = record { part = x; at = j; first = d; rest = record { tree = e; at = refl } }

-- ---- a rule that begins with a name

module _ {A : Type 0} (place : ℕ → Span) (most : ℕ) (Q : NamedPlace → Rel A) where
  abbrev pub NameRel : Rel NamedPlace
  NameRel = λ s a i j. NameAt place most i s a i j

  abbrev pub Called : Rel A
  Called = Then NameRel Q

  pub take_name : (s : Text) (a : A) (i j : ℕ) → Called s a i j → (terminal (s i) ≡ t.Word) × Q (named (place i) (s i)) s a (suc i) j
  take_name s a i j d = (d.first.kind, subst (λ (z : ℕ). Q (named (place i) (s i)) s a z j) d.first.rest.at (subst (λ (x : NamedPlace). Q x s a d.at j) d.first.rest.tree d.rest))

  pub put_name : (s : Text) (a : A) (i j : ℕ) → terminal (s i) ≡ t.Word → Q (named (place i) (s i)) s a (suc i) j → Called s a i j
  put_name s a i j o d = record { part = named (place i) (s i); at = suc i; first = record { kind = o; rest = record { tree = refl; at = refl } }; rest = d }
