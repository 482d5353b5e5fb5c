-- Pieces all of whose tokens have a property.
use Rattle.std.proofs.Common.{◌≡◌, List, [], ◌∷◌, ◌++◌, map, refl, sym, subst}
use Rattle.bj_lex.specs.Grammar.{Spelled}
use Rattle.bj_writer.specs.Pieces.{Piece, Mark, Space, Line, tokens_of}
use Rattle.bj_layout.specs.Exprs.{each_behind, separated}

module _ (P : Spelled → Type 0) where
  abbrev pub Drawn : List Piece → Type 0
  Drawn [] = Unit {0}
  Drawn (Mark kind units ∷ rest) = P (kind, units) × Drawn rest
  Drawn (Space ∷ rest) = Drawn rest
  Drawn (Line n ∷ rest) = Drawn rest

  -- each of them
  abbrev pub AllDrawn : List (List Piece) → Type 0
  AllDrawn [] = Unit {0}
  AllDrawn (p ∷ ps) = Drawn p × AllDrawn ps

  pub both : (p q : List Piece) → Drawn p → Drawn q → Drawn (p ++ q)
  both [] q x y = y
  both (Mark kind units ∷ p) q x y = (x.0, both p q x.1 y)
  both (Space ∷ p) q x y = both p q x y
  both (Line n ∷ p) q x y = both p q x y

  pub all_behind : (before : List Piece) (ps : List (List Piece)) → Drawn before → AllDrawn ps → Drawn (each_behind before ps)
  all_behind before [] b all = tt
  all_behind before (p ∷ ps) b all = both before _ b (both p _ all.0 (all_behind before ps b all.1))

  -- what stands between them stands there only where there are two at least
  abbrev pub Between : List Piece → List (List Piece) → Type 0
  Between between (p ∷ q ∷ ps) = Drawn between
  Between between ps = Unit {0}

  pub all_separated : (between : List Piece) (ps : List (List Piece)) → Between between ps → AllDrawn ps → Drawn (separated between ps)
  all_separated between [] b all = tt
  all_separated between (p ∷ []) b all = both p [] all.0 tt
  all_separated between (p ∷ q ∷ ps) b all = both p _ all.0 (all_behind between (q ∷ ps) b all.1)

  -- ---- lists with one more at the end

  module _ {A : Type 0} (pieces : A → List Piece) where
    drawn_end : (b : List A) (x : A) → AllDrawn (map pieces b) → Drawn (pieces x) → AllDrawn (map pieces (b ++ x ∷ []))
    drawn_end [] x all one = (one, tt)
    drawn_end (y ∷ b) x all one = (all.0, drawn_end b x all.1 one)

    pub all_none : (xs : List A) → xs ≡ [] → AllDrawn (map pieces xs)
    all_none xs is = subst (λ (ys : List A). AllDrawn (map pieces ys)) (sym is) tt

    pub all_one : (xs : List A) (x : A) → xs ≡ x ∷ [] → Drawn (pieces x) → AllDrawn (map pieces xs)
    all_one xs x is d = subst (λ (ys : List A). AllDrawn (map pieces ys)) (sym is) (d, tt)

    pub all_next : (xs b : List A) (x : A) → xs ≡ b ++ x ∷ [] → AllDrawn (map pieces b) → Drawn (pieces x) → AllDrawn (map pieces xs)
    all_next xs b x is all d = subst (λ (ys : List A). AllDrawn (map pieces ys)) (sym is) (drawn_end b x all d)

    pub between_end : (between : List Piece) (b : List A) (x : A) → Drawn between → Between between (map pieces (b ++ x ∷ []))
    between_end between [] x d = tt
    between_end between (y ∷ []) x d = d
    between_end between (y ∷ z ∷ b) x d = d

-- a list of parts, each of which is printed so, with the same pieces between them
pub record Rows {A : Type 0} (P : Spelled → Type 0) (pieces : A → List Piece) (between : List Piece) (xs : List A) : Type 0 where
  pub each : AllDrawn P (map pieces xs)
  pub betweens : Between P between (map pieces xs)

module _ {A : Type 0} (P : Spelled → Type 0) (pieces : A → List Piece) (between : List Piece) where
  pub rows_drawn : (xs : List A) → Rows P pieces between xs → Drawn P (separated between (map pieces xs))
  rows_drawn xs d = all_separated P between (map pieces xs) d.betweens d.each

  pub rows_none : (xs : List A) → xs ≡ [] → Rows P pieces between xs
  rows_none xs is = subst (Rows P pieces between) (sym is) (record { each = tt; betweens = tt })

  pub rows_one : (xs : List A) (x : A) → xs ≡ x ∷ [] → Drawn P (pieces x) → Rows P pieces between xs
  rows_one xs x is d = subst (Rows P pieces between) (sym is) (record { each = (d, tt); betweens = tt })

  pub rows_next : (xs b : List A) (x : A) → xs ≡ b ++ x ∷ [] → Drawn P between → Rows P pieces between b → Drawn P (pieces x) → Rows P pieces between xs
  rows_next xs b x is d rows one = subst (Rows P pieces between) (sym is) (record { each = all_next P pieces (b ++ x ∷ []) b x refl rows.each one; betweens = between_end P pieces between b x d })

-- the tokens of such pieces
abbrev pub AllTokens : (Spelled → Type 0) → List Spelled → Type 0
AllTokens P [] = Unit {0}
AllTokens P (x ∷ rest) = P x × AllTokens P rest

pub tokens_drawn : (P : Spelled → Type 0) (p : List Piece) → Drawn P p → AllTokens P (tokens_of p)
tokens_drawn P [] d = tt
tokens_drawn P (Mark kind units ∷ p) d = (d.0, tokens_drawn P p d.1)
tokens_drawn P (Space ∷ p) d = tokens_drawn P p d
tokens_drawn P (Line n ∷ p) d = tokens_drawn P p d
