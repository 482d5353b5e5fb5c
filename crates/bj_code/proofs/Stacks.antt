-- The topmost operands.
use Rattle.std.proofs.Common.{◌≡◌, ℕ, zero, suc, ◌-◌, ◌+◌, ◌<◌, ◌≤◌, List, [], ◌∷◌, ◌++◌, length, take, drop, Option, Some, None, refl, sym, ap, ◌∙◌, arith, get_or}
use Rattle.std.specs.Prelude.{MatchOption, reverse, slice_get}
use Rattle.std.proofs.lemmas.Option.{slice_get-get_or, get_or_from_slice_get}
use Rattle.std.proofs.lemmas.List.{reverse-append, reverse-reverse, take-append-drop, drop-take, length-reverse, length-drop, length-take-le}
use Rattle.std.proofs.Math.Seq.{take-suc, take-append_seam, drop-append_seam}
use Rattle.bj_core.specs.declared.types.Val.{Val}
use Rattle.bj_core.specs.declared.types.Val.TheVariants.{Null}

top_of : (items : List Val) (n k : ℕ) (x : Val) → n ≡ suc k → n ≤ length items → slice_get items k ≡ Some x → reverse (take n items) ≡ x ∷ reverse (take k items)
top_of items n k x en le e =
    let lt : k < length items = omega arith in
    ap (λ n. reverse (take n items)) en ∙ ap reverse (take-suc items k x lt) ∙ reverse-append (take k items) (get_or items k x ∷ [])
    ∙ ap (λ y. y ∷ reverse (take k items)) (get_or_from_slice_get items k x x e)

pub popped : (items vs : List Val) (n : ℕ) (o : Option Val) → reverse (take n items) ≡ vs → o ≡ slice_get items (n - 1) → (n ≡ 0 → ⊥) → n ≤ length items
    → MatchOption o ((vs ≡ []) × (reverse (take (n - 1) items) ≡ [])) (λ top. vs ≡ top ∷ reverse (take (n - 1) items))
popped items vs n None v e nz le = let lt : n - 1 < length items = omega arith in let some = slice_get-get_or items (n - 1) Null lt in absurd (cc)
popped items vs n (Some x) v e nz le = let s : n ≡ suc (n - 1) = omega arith in sym v ∙ top_of items n (n - 1) x s le (sym e)

-- the first of a list that is turned around are the last of the list
turned : (ys : List Val) (m : ℕ) → reverse ys ≡ reverse (drop m ys) ++ reverse (take m ys)
turned ys m = ap reverse (sym (take-append-drop m ys)) ∙ reverse-append (take m ys) (drop m ys)

turned_length : (ys : List Val) (m k : ℕ) → m + k ≡ length ys → length (reverse (drop m ys)) ≡ k
turned_length ys m k e = length-reverse (drop m ys) ∙ length-drop m ys ∙ omega arith

first_turned : (ys : List Val) (m k : ℕ) → m + k ≡ length ys → reverse (take k (reverse ys)) ≡ drop m ys
first_turned ys m k e =
    ap (λ l. reverse (take k l)) (turned ys m) ∙ ap (λ k. reverse (take k (reverse (drop m ys) ++ reverse (take m ys)))) (sym (turned_length ys m k e))
    ∙ ap reverse (take-append_seam (reverse (drop m ys)) (reverse (take m ys))) ∙ reverse-reverse (drop m ys)

rest_turned : (ys : List Val) (m k : ℕ) → m + k ≡ length ys → drop k (reverse ys) ≡ reverse (take m ys)
rest_turned ys m k e =
    ap (drop k) (turned ys m) ∙ ap (λ k. drop k (reverse (drop m ys) ++ reverse (take m ys))) (sym (turned_length ys m k e))
    ∙ drop-append_seam (reverse (drop m ys)) (reverse (take m ys))

operands : (items vs : List Val) (n : ℕ) → reverse (take n items) ≡ vs → n ≤ length items → n ≡ length vs
operands items vs n v le = sym (length-take-le n items le) ∙ sym (length-reverse (take n items)) ∙ ap length v

pub topmost : (items slice vs : List Val) (n k : ℕ) → reverse (take n items) ≡ vs → slice ≡ items → n ≤ length items → k ≤ length vs
    → take (n - (n - k)) (drop (n - k) slice) ≡ reverse (take k vs)
topmost items slice vs n k v same le kle =
    let count = operands items vs n v le in
    let left : n - (n - k) ≡ k = omega arith in
    let all : (n - k) + k ≡ n = omega arith in
    let whole : (n - k) + k ≡ length (take n items) = all ∙ sym (length-take-le n items le) in
    ap (λ j. take j (drop (n - k) slice)) left ∙ ap (λ l. take k (drop (n - k) l)) same ∙ sym (drop-take (n - k) k items)
    ∙ ap (λ j. drop (n - k) (take j items)) all ∙ sym (first_turned (take n items) (n - k) k whole) ∙ ap (λ l. reverse (take k l)) v

pub below_topmost : (items vs : List Val) (n k : ℕ) → reverse (take n items) ≡ vs → n ≤ length items → k ≤ length vs → reverse (take (n - k) items) ≡ drop k vs
below_topmost items vs n k v le kle =
    let count = operands items vs n v le in
    let all : n ≡ (n - k) + k = omega arith in
    let whole : (n - k) + k ≡ length (take n items) = sym all ∙ sym (length-take-le n items le) in
    ap reverse (sym (take_within items (n - k) n (omega arith))) ∙ sym (rest_turned (take n items) (n - k) k whole) ∙ ap (drop k) v
  where
    take_within : (l : List Val) (a b : ℕ) → a ≤ b → take a (take b l) ≡ take a l
    take_within l zero b h = refl
    take_within l (suc a) zero h = absurd (omega arith)
    take_within [] (suc a) (suc b) h = refl
    take_within (x ∷ l) (suc a) (suc b) h = ap (λ l. x ∷ l) (take_within l a b (omega arith))
