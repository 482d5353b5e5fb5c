-- Pieces that are written one after another, and lists of them that are written in a loop.
use Rattle.std.proofs.Common.{◌≡◌, ℕ, zero, suc, ◌+◌, ◌<◌, List, [], ◌∷◌, ◌++◌, Option, Some, None, map, take, get_or, length, refl, sym, ap, ◌∙◌, subst, append_assoc, Bool, false, arith}
use Rattle.std.specs.Prelude.{codes, ◌==◌, if◌then◌else◌}
use Rattle.std.proofs.lemmas.List.{append-nil, get_or_default, map_more}
use Rattle.bj_writer.specs.declared.writer.Last.{Last}
use Rattle.bj_writer.specs.declared.writer.Writer.{Writer}
use Rattle.bj_writer.specs.Pieces.{Piece, Mark, Space, Line, gap, last_of, spaces, written, last_after, Wrote}
use Rattle.bj_layout.specs.Exprs.{sign, each_behind, separated, pairs}
use Rattle.bj_layout.specs.Parts.{before_next}

-- ---- one after another

last_append : (last : Option Last) (p q : List Piece) → last_after last (p ++ q) ≡ last_after (last_after last p) q
unfolding last_after
last_append last [] q = refl
last_append last (Mark kind units ∷ p) q = last_append (Some (last_of kind units)) p q
last_append last (Space ∷ p) q = last_append None p q
last_append last (Line n ∷ p) q = last_append None p q

written_append : (last : Option Last) (p q : List Piece) → written last (p ++ q) ≡ written last p ++ written (last_after last p) q
unfolding written last_after
written_append last [] q = refl
written_append last (Mark kind units ∷ p) q =
    ap (λ (w : List ℕ). gap last kind units ++ (units ++ w)) (written_append (Some (last_of kind units)) p q)
    ∙ (ap (λ (w : List ℕ). gap last kind units ++ w) (sym (append_assoc units (written (Some (last_of kind units)) p) (written (last_after (Some (last_of kind units)) p) q)))
    ∙ sym (append_assoc (gap last kind units) (units ++ written (Some (last_of kind units)) p) (written (last_after (Some (last_of kind units)) p) q)))
written_append last (Space ∷ p) q = ap (λ (w : List ℕ). 32 ∷ w) (written_append None p q)
written_append last (Line n ∷ p) q =
    ap (λ (w : List ℕ). 10 ∷ (spaces n ++ w)) (written_append None p q)
    ∙ ap (λ (w : List ℕ). 10 ∷ w) (sym (append_assoc (spaces n) (written None p) (written (last_after None p) q)))

pub then_wrote : {a b c : Writer} {p q : List Piece} → Wrote a b p → Wrote b c q → Wrote a c (p ++ q)
then_wrote {a} {b} {c} {p} {q} h k = record {
  text = k.text ∙ (ap (λ (w : List ℕ). w ++ written b.last q) h.text ∙ (append_assoc a.text (written a.last p) (written b.last q)
      ∙ (ap (λ (l : Option Last). a.text ++ (written a.last p ++ written l q)) h.last ∙ ap (λ (w : List ℕ). a.text ++ w) (sym (written_append a.last p q)))));
  last = k.last ∙ (ap (λ (l : Option Last). last_after l q) h.last ∙ sym (last_append a.last p q));
}

pub nothing_wrote : {a : Writer} → Wrote a a []
unfolding written last_after
nothing_wrote {a} = record { text = sym (append-nil a.text); last = refl }

-- the same pieces, said in another way
pub wrote_as : {a b : Writer} {p q : List Piece} → q ≡ p → Wrote a b p → Wrote a b q
wrote_as {a} {b} e h = subst (λ (w : List Piece). Wrote a b w) (sym e) h

-- ---- lists, an item at a time

pub behind_end : (before : List Piece) (ps : List (List Piece)) (p : List Piece) → each_behind before (ps ++ p ∷ []) ≡ each_behind before ps ++ (before ++ p)
behind_end before [] p = ap (λ (w : List Piece). before ++ w) (append-nil p)
behind_end before (q ∷ ps) p =
    ap (λ (w : List Piece). before ++ (q ++ w)) (behind_end before ps p)
    ∙ (ap (λ (w : List Piece). before ++ w) (sym (append_assoc q (each_behind before ps) (before ++ p))) ∙ sym (append_assoc before (q ++ each_behind before ps) (before ++ p)))

-- what stands before the item at the end
pub next_more : (between : List Piece) (n : ℕ) → before_next between (suc n) ≡ between
next_more between n = ap (λ (b : Bool). if b then [] else between) (let e : (suc n == 0) ≡ false = search arith in e)

separated_end : (between : List Piece) (ps : List (List Piece)) (p : List Piece) → separated between (ps ++ p ∷ []) ≡ separated between ps ++ (before_next between (length ps) ++ p)
separated_end between [] p = append-nil p
separated_end between (q ∷ ps) p =
    ap (λ (w : List Piece). q ++ w) (behind_end between ps p)
    ∙ (sym (append_assoc q (each_behind between ps) (between ++ p)) ∙ ap (λ (w : List Piece). (q ++ each_behind between ps) ++ (w ++ p)) (sym (next_more between (length ps))))

-- the item of a list `xs` at `n`, got from the same list behind a borrow
pub record At {A : Type 0} (xs : List A) (n : ℕ) (x : A) : Type 0 where
  pub below : n < length xs
  pub is : x ≡ get_or xs n x

pub item_at : {A : Type 0} {xs ys : List A} {n : ℕ} {x : A} → ys ≡ xs → n < length ys → x ≡ get_or ys n x → At xs n x
item_at {A} {xs} {ys} {n} {x} same below is = subst (λ (zs : List A). At zs n x) same (record { below = below; is = is })

pub item_got : {A : Type 0} {xs ys : List A} {n : ℕ} (d : A) → ys ≡ xs → n < length ys → At xs n (get_or ys n d)
item_got {A} {xs} {ys} {n} d same below = item_at same below (get_or_default ys n d (get_or ys n d) below)

-- the front of a list, with one item more
map_next : {A : Type 0} (f : A → List Piece) (xs : List A) (n : ℕ) (x : A) → At xs n x → map f (take (n + 1) xs) ≡ map f (take n xs) ++ f x ∷ []
map_next {A} f xs n x at = map_more f xs n x at.below ∙ ap (λ (y : A). map f (take n xs) ++ f y ∷ []) (sym at.is)

-- the front has as many items
pub prefix_length : {A : Type 0} (xs : List A) (n : ℕ) → n < length xs → length (take n xs) ≡ n
prefix_length xs zero below = refl
prefix_length [] (suc n) below = absurd (omega arith)
prefix_length (x ∷ xs) (suc n) below = ap suc (prefix_length xs n (omega arith))

map_length : {A : Type 0} (f : A → List Piece) (xs : List A) (n : ℕ) → n < length xs → length (map f (take n xs)) ≡ n
map_length f xs zero below = refl
map_length f [] (suc n) below = absurd (omega arith)
map_length f (x ∷ xs) (suc n) below = ap suc (map_length f xs n (omega arith))

pub wrote_behind : {A : Type 0} (before : List Piece) (f : A → List Piece) (xs : List A) (n : ℕ) (x : A) {a b c : Writer} → At xs n x
    → Wrote a b (each_behind before (map f (take n xs))) → Wrote b c (before ++ f x) → Wrote a c (each_behind before (map f (take (n + 1) xs)))
wrote_behind before f xs n x at h k = wrote_as (ap (each_behind before) (map_next f xs n x at) ∙ behind_end before (map f (take n xs)) (f x)) (then_wrote h k)

-- two maps, one behind the other
pub map_both : {A B : Type 0} (g : B → List Piece) (f : A → B) (xs : List A) → map g (map f xs) ≡ map (λ (x : A). g (f x)) xs
map_both g f [] = refl
map_both g f (x ∷ xs) = ap (λ (ps : List (List Piece)). g (f x) ∷ ps) (map_both g f xs)

pub wrote_behind_both : {A B : Type 0} (before : List Piece) (g : B → List Piece) (f : A → B) (xs : List A) (n : ℕ) (x : A) {a b c : Writer} → At xs n x
    → Wrote a b (each_behind before (map g (map f (take n xs)))) → Wrote b c (before ++ g (f x)) → Wrote a c (each_behind before (map g (map f (take (n + 1) xs))))
wrote_behind_both {A} before g f xs n x at h k =
    wrote_as (ap (each_behind before) (map_both g f (take (n + 1) xs)))
    (wrote_behind before (λ (y : A). g (f y)) xs n x at (wrote_as (ap (each_behind before) (sym (map_both g f (take n xs)))) h) k)

pub wrote_separated : {A : Type 0} (between : List Piece) (f : A → List Piece) (xs : List A) (n : ℕ) (x : A) {a b c d : Writer} → At xs n x
    → Wrote a b (separated between (map f (take n xs))) → Wrote b c (before_next between n) → Wrote c d (f x) → Wrote a d (separated between (map f (take (n + 1) xs)))
wrote_separated between f xs n x at h k m =
    wrote_as (ap (separated between) (map_next f xs n x at) ∙ (separated_end between (map f (take n xs)) (f x)
    ∙ ap (λ (i : ℕ). separated between (map f (take n xs)) ++ (before_next between i ++ f x)) (map_length f xs n at.below)))
    (then_wrote h (then_wrote k m))

pub wrote_separated_both : {A B : Type 0} (between : List Piece) (g : B → List Piece) (f : A → B) (xs : List A) (n : ℕ) (x : A) {a b c d : Writer} → At xs n x
    → Wrote a b (separated between (map g (map f (take n xs)))) → Wrote b c (before_next between n) → Wrote c d (g (f x)) → Wrote a d (separated between (map g (map f (take (n + 1) xs))))
wrote_separated_both {A} between g f xs n x at h k m =
    wrote_as (ap (separated between) (map_both g f (take (n + 1) xs)))
    (wrote_separated between (λ (y : A). g (f y)) xs n x at (wrote_as (ap (separated between) (sym (map_both g f (take n xs)))) h) k m)

-- pairs of brackets, a pair at a time
pairs_more : (n : ℕ) → pairs (suc n) ≡ pairs n ++ (sign (codes "[") ∷ sign (codes "]") ∷ [])
pairs_more zero = refl
pairs_more (suc n) = ap (λ (w : List Piece). sign (codes "[") ∷ sign (codes "]") ∷ w) (pairs_more n)

pairs_end : (n : ℕ) → pairs (n + 1) ≡ pairs n ++ (sign (codes "[") ∷ sign (codes "]") ∷ [])
pairs_end n = ap pairs (let e : n + 1 ≡ suc n = omega arith in e) ∙ pairs_more n

pub wrote_pair : (n : ℕ) {a b c d : Writer} → Wrote a b (pairs n) → Wrote b c (sign (codes "[") ∷ []) → Wrote c d (sign (codes "]") ∷ []) → Wrote a d (pairs (n + 1))
wrote_pair n h k m = wrote_as (pairs_end n) (then_wrote h (then_wrote k m))

-- what stands before an item: nothing before the first
pub nothing_next : (between : List Piece) (n : ℕ) {a : Writer} → n ≡ 0 → Wrote a a (before_next between n)
nothing_next between n e = wrote_as (ap (before_next between) e) nothing_wrote

pub wrote_next : (between : List Piece) (n : ℕ) {a b : Writer} → (n ≡ 0 → ⊥) → Wrote a b between → Wrote a b (before_next between n)
wrote_next between zero e h = absurd (e refl)
wrote_next between (suc n) e h = wrote_as (next_more between n) h
