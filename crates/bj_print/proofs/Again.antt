-- How what is printed is read again, part by part: what stands between a place and the end of tokens that a text holds there.
use Rattle.std.proofs.Common.{◌≡◌, ℕ, suc, List, [], ◌∷◌, ◌++◌, refl, sym, ap, subst}
use Rattle.bj_lex.specs.Grammar.{Spelled}
use Rattle.bj_grammar.specs.Reader.{Text}
use Rattle.bj_grammar.specs.Terminal.{terminal, terminal_by}
use Rattle.bj_writer.specs.Pieces.{Piece, tokens_of}
use Rattle.bj_print.proofs.Holds.{spelling_of, Holds, ends, Back, terminal_is, tokens_append, holds_front, holds_behind, ends_append}

-- what is read of tokens wherever the text holds them
pub record Reads (t : Text) (w : List Spelled) (F : ℕ → ℕ → Type 0) : Type 0 where
  pub read : (k : ℕ) → Holds t k w → F k (ends k w)

-- one behind another
pub record Then (F G : ℕ → ℕ → Type 0) (k j : ℕ) : Type 0 where
  pub middle : ℕ
  pub first : F k middle
  pub second : G middle j

-- a token with the terminal that it is, and what is behind it
pub record Mark (t : Text) (x : Spelled) (G : ℕ → ℕ → Type 0) (k j : ℕ) : Type 0 where
  pub token : spelling_of (t k) ≡ x
  pub is : terminal (t k) ≡ terminal_by x.0 x.1
  pub rest : G (suc k) j

abbrev pub Ended : ℕ → ℕ → Type 0
Ended k j = j ≡ k

pub reads_end : {t : Text} → Reads t [] Ended
reads_end {t} = record { read = λ k h. refl }

pub reads_mark : {t : Text} {w : List Spelled} {G : ℕ → ℕ → Type 0} (x : Spelled) → Reads t w G → Reads t (x ∷ w) (Mark t x G)
reads_mark {t = t} x f = record { read = λ k h. record { token = h.0; is = terminal_is (t k) x.0 x.1 h.0; rest = f.read (suc k) h.1 } }

pub reads_last : {t : Text} (x : Spelled) → Reads t (x ∷ []) (Mark t x Ended)
reads_last x = reads_mark x reads_end

pub reads_then : {t : Text} {u v : List Spelled} {F G : ℕ → ℕ → Type 0} → Reads t u F → Reads t v G → Reads t (u ++ v) (Then F G)
reads_then {t} {u} {v} {F} {G} f g = record {
  read = λ k h. subst (Then F G k) (sym (ends_append k u v)) (record { middle = ends k u; first = f.read k (holds_front t k u v h); second = g.read (ends k u) (holds_behind t k u v h) });
}

pub reads_as : {t : Text} {w : List Spelled} {F G : ℕ → ℕ → Type 0} → Reads t w F → ((k j : ℕ) → F k j → G k j) → Reads t w G
reads_as f g = record { read = λ k h. g k _ (f.read k h) }

-- what stands as one of the grammar's families stands as another
pub lifted : {A : Type 0} {t : Text} {w : List Spelled} {D E : A → ℕ → ℕ → Type 0} {Same : A → A → Type 0} {a : A} → ((x : A) (k j : ℕ) → D x k j → E x k j) → Reads t w (Back D Same a) → Reads t w (Back E Same a)
lifted g f = reads_as f (λ k j b. record { tree = b.tree; stands = g b.tree k j b.stands; same = b.same })

-- the same under another spelling of the tokens
pub respelled : {t : Text} {w w2 : List Spelled} {F : ℕ → ℕ → Type 0} → w ≡ w2 → Reads t w2 F → Reads t w F
respelled {t} {F = F} same f = subst (λ (w : List Spelled). Reads t w F) (sym same) f

-- the same, printed as other pieces
pub reprinted : {t : Text} {p q : List Piece} {F : ℕ → ℕ → Type 0} → p ≡ q → Reads t (tokens_of q) F → Reads t (tokens_of p) F
reprinted same f = respelled (ap tokens_of same) f

pub reads_parts : {t : Text} {F G : ℕ → ℕ → Type 0} (p q : List Piece) → Reads t (tokens_of p) F → Reads t (tokens_of q) G → Reads t (tokens_of (p ++ q)) (Then F G)
reads_parts p q f g = respelled (tokens_append p q) (reads_then f g)
