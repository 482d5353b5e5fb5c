-- Sums over the front of a list, with a greatest number.
use Rattle.std.proofs.Common.{◌≡◌, ℕ, ◌+◌, ◌<◌, List, [], ◌∷◌, ◌++◌, map, take, get_or, length, refl, sym, ap, ◌∙◌, arith}
use Rattle.std.proofs.lemmas.List.{take_more}
use Rattle.std.specs.Prelude.{min}
use Rattle.bj_expr_tree.specs.Count.{total}

-- the sum of a list with one more at its end
total_end : (ns : List ℕ) (n : ℕ) → total (ns ++ n ∷ []) ≡ total ns + n
total_end [] n = omega arith
total_end (k ∷ ns) n = let h = total_end ns n in omega arith

-- the numbers of a list with one more at its end
map_end : {X : Type 0} (f : X → ℕ) (xs : List X) (x : X) → map f (xs ++ x ∷ []) ≡ map f xs ++ f x ∷ []
map_end f [] x = refl
map_end f (y ∷ xs) x = ap (λ (ns : List ℕ). f y ∷ ns) (map_end f xs x)

-- one item more of the list: the sum so far becomes that of the items up to it
pub total_step : {X : Type 0} (f : X → ℕ) (xs : List X) (n : ℕ) (x : X) (m h r : ℕ) → n < length xs → x ≡ get_or xs n x
    → m ≡ min (total (map f (take n xs))) 4294967295 → h ≡ min (f x) 4294967295 → r ≡ min (m + h) 4294967295
    → r ≡ min (total (map f (take (n + 1) xs))) 4294967295
total_step {X} f xs n x m h r below is em eh er =
    let e : total (map f (take (n + 1) xs)) ≡ total (map f (take n xs)) + f x =
    ap (λ (ys : List X). total (map f ys)) (take_more xs n x below ∙ ap (λ (y : X). take n xs ++ y ∷ []) (sym is)) ∙ ap total (map_end f (take n xs) x) ∙ total_end (map f (take n xs)) (f x) in
    omega arith
