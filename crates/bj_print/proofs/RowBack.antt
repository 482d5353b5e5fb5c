-- Parts that are printed in a row, with nothing or with a sign between them, are read again.
use Rattle.std.proofs.Common.{◌≡◌, ℕ, suc, List, [], ◌∷◌, ◌++◌, map, append_assoc, refl, sym, ap, ◌∙◌, subst}
use Rattle.std.proofs.lemmas.List.{append-nil, map-append}
use Rattle.bj_token.specs.declared.token.TokenKind.TheVariants as kinds
use Rattle.bj_lex.specs.Grammar.{Spelled}
use Rattle.bj_grammar.specs.Terminal.{terminal, terminal_by}
use Rattle.bj_grammar.specs.Reader.{Text}
use Rattle.bj_writer.specs.Pieces.{Piece, tokens_of}
use Rattle.bj_layout.specs.Exprs.{each_behind, separated}
use Rattle.bj_layout.specs.Classes.{each}
use Rattle.bj_print.proofs.Holds.{Back, tokens_append}
use Rattle.bj_print.proofs.ExprTokens.{signed}
use Rattle.bj_layout.proofs.Writing.{behind_end}
use Rattle.bj_print.proofs.Again.{Reads, reads_end, reads_mark, reads_parts, reads_as, respelled, reprinted}

-- the same but for places, which are blotted out
abbrev pub SameBy : {A : Type 0} → (A → A) → A → A → Type 0
SameBy blot a b = blot a ≡ blot b

abbrev pub SameAll : {A : Type 0} → (A → A) → List A → List A → Type 0
SameAll blot a b = map blot a ≡ map blot b

-- the tokens of parts one behind another
abbrev pub row_tokens : {A : Type 0} → (A → List Piece) → List A → List Spelled
row_tokens pieces xs = tokens_of (each (map pieces xs))

-- with something between them
abbrev pub parted_tokens : {A : Type 0} → List Piece → (A → List Piece) → List A → List Spelled
parted_tokens between pieces xs = tokens_of (separated between (map pieces xs))

-- ---- a row with one more at the end

row_end : {A : Type 0} (pieces : A → List Piece) (b : List A) (c : A) → each (map pieces (b ++ c ∷ [])) ≡ each (map pieces b) ++ pieces c
row_end pieces b c = ap each (map-append pieces b (c ∷ [])) ∙ behind_end [] (map pieces b) (pieces c)

-- a list that has some
pub record HasOne {A : Type 0} (xs : List A) : Type 0 where
  pub first : A
  pub rest : List A
  pub is : xs ≡ first ∷ rest

pub has_only : {A : Type 0} {a : List A} {x : A} → a ≡ x ∷ [] → HasOne a
has_only {x = x} is = record { first = x; rest = []; is = is }

pub has_more : {A : Type 0} {a b : List A} (x : A) → HasOne b → a ≡ b ++ x ∷ [] → HasOne a
has_more {A} x f is = record { first = f.first; rest = f.rest ++ x ∷ []; is = is ∙ ap (λ (w : List A). w ++ x ∷ []) f.is }

parted_end : {A : Type 0} (between : List Piece) (pieces : A → List Piece) (b : List A) (c : A) → HasOne b
    → separated between (map pieces (b ++ c ∷ [])) ≡ separated between (map pieces b) ++ (between ++ pieces c)
parted_end {A} between pieces b c f = subst (λ (b : List A). separated between (map pieces (b ++ c ∷ [])) ≡ separated between (map pieces b) ++ (between ++ pieces c)) (sym f.is)
    (ap (λ (ps : List (List Piece)). pieces f.first ++ each_behind between ps) (map-append pieces f.rest (c ∷ []))
    ∙ (ap (λ (w : List Piece). pieces f.first ++ w) (behind_end between (map pieces f.rest) (pieces c))
    ∙ sym (append_assoc (pieces f.first) (each_behind between (map pieces f.rest)) (between ++ pieces c))))

-- ---- the same

same_only : {A : Type 0} (blot : A → A) (x y : A) → SameBy blot x y → SameAll blot (x ∷ []) (y ∷ [])
same_only {A} blot x y e = ap (λ (z : A). z ∷ []) e

same_more : {A : Type 0} (blot : A → A) (a b : List A) (x y : A) → SameAll blot a b → SameBy blot x y → SameAll blot (a ++ x ∷ []) (b ++ y ∷ [])
same_more {A} blot a b x y e f =
    map-append blot a (x ∷ [])
    ∙ (ap (λ (w : List A). w ++ blot x ∷ []) e ∙ (ap (λ (z : A). map blot b ++ z ∷ []) f ∙ sym (map-append blot b (y ∷ []))))

-- ---- what is found again

abbrev pub FoundOne : {A : Type 0} → Text → (A → A) → (A → List Piece) → (A → ℕ → ℕ → Type 0) → A → Type 0
FoundOne t blot pieces D a = Reads t (tokens_of (pieces a)) (Back D (SameBy blot) a)

abbrev pub FoundRow : {A : Type 0} → Text → (A → A) → (A → List Piece) → (List A → ℕ → ℕ → Type 0) → List A → Type 0
FoundRow t blot pieces L a = Reads t (row_tokens pieces a) (Back L (SameAll blot) a)

abbrev pub FoundParted : {A : Type 0} → Text → (A → A) → List Piece → (A → List Piece) → (List A → ℕ → ℕ → Type 0) → List A → Type 0
FoundParted t blot between pieces L a = Reads t (parted_tokens between pieces a) (Back L (SameAll blot) a)

-- ---- rows of any family

module _ {A : Type 0} (t : Text) (blot : A → A) (pieces : A → List Piece) (D : A → ℕ → ℕ → Type 0) (L : List A → ℕ → ℕ → Type 0) where
  -- with nothing between them

  pub empty_row : {a : List A} → ((k j : ℕ) → j ≡ k → L [] k j) → a ≡ [] → FoundRow t blot pieces L a
  empty_row none is = subst (FoundRow t blot pieces L) (sym is) (reads_as reads_end (λ k j f. record { tree = []; stands = none k j f; same = refl }))

  pub one_row : {a : List A} {x : A} → ((y : A) (k j : ℕ) → D y k j → L (y ∷ []) k j) → FoundOne t blot pieces D x → a ≡ x ∷ [] → FoundRow t blot pieces L a
  one_row {x = x} one d is = subst (FoundRow t blot pieces L) (sym is) (reprinted (append-nil (pieces x)) (reads_as d (λ k j f. record {
    tree = f.tree ∷ [];
    stands = one f.tree k j f.stands;
    same = same_only blot f.tree x f.same;
  })))

  -- what the longer row stands by may be asked of one that is the same as the row before it
  pub longer_row : {a b : List A} {c : A} → ((xs : List A) (y : A) (k m j : ℕ) → SameAll blot xs b → L xs k m → D y m j → L (xs ++ y ∷ []) k j) → FoundRow t blot pieces L b → FoundOne t blot pieces D c → a ≡ b ++ c ∷ [] → FoundRow t blot pieces L a
  longer_row {b = b} {c = c} more all d is = subst (FoundRow t blot pieces L) (sym is) (reprinted (row_end pieces b c) (reads_as (reads_parts (each (map pieces b)) _ all d) (λ k j f. record {
    tree = f.first.tree ++ f.second.tree ∷ [];
    stands = more f.first.tree f.second.tree k f.middle j f.first.same f.first.stands f.second.stands;
    same = same_more blot f.first.tree b f.second.tree c f.first.same f.second.same;
  })))

  -- with a sign between them

  module _ (between : List Piece) (units : List ℕ) (spelt : tokens_of between ≡ signed units ∷ []) where
    pub one_part : {a : List A} {x : A} → ((y : A) (k j : ℕ) → D y k j → L (y ∷ []) k j) → FoundOne t blot pieces D x → a ≡ x ∷ [] → FoundParted t blot between pieces L a
    one_part one d is = subst (FoundParted t blot between pieces L) (sym is) (one_row one d refl)

    pub more_parts : {a b : List A} {x : A} → ((c : List A) (y : A) (k m j : ℕ) → L c k m → terminal (t m) ≡ terminal_by kinds.Sign units → D y (suc m) j → L (c ++ y ∷ []) k j)
        → HasOne b → FoundParted t blot between pieces L b → FoundOne t blot pieces D x → a ≡ b ++ x ∷ [] → FoundParted t blot between pieces L a
    more_parts {b = b} {x = x} more some all d is = subst (FoundParted t blot between pieces L) (sym is)
        (reprinted (parted_end between pieces b x some) (reads_as (reads_parts (separated between (map pieces b)) _ all
        (respelled (tokens_append between (pieces x) ∙ ap (λ (w : List Spelled). w ++ tokens_of (pieces x)) spelt) (reads_mark (signed units) d))) (λ k j f. record {
          tree = f.first.tree ++ f.second.rest.tree ∷ [];
          stands = more f.first.tree f.second.rest.tree k f.middle j f.first.stands f.second.is f.second.rest.stands;
          same = same_more blot f.first.tree b f.second.rest.tree x f.first.same f.second.rest.same;
        })))
