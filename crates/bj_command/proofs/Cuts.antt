-- Where the bytes are cut into lines.
use Rattle.std.proofs.Common.{◌≡◌, ℕ, zero, suc, ◌+◌, ◌<◌, ◌==◌, Bool, true, false, List, [], ◌∷◌, ◌++◌, length, take, drop, get_or, arith, append_assoc}
use Rattle.std.proofs.lemmas.List.{append-nil}
use Rattle.std.proofs.lemmas.Bool.Decides.{nat_tests}
use Rattle.bj_command.specs.Items.{items, items_from, line_then, last_line, without_cr}

-- the line that has begun ends at the first LF
pub items-line : (begun xs more : List ℕ) (n : ℕ) (ended : Bool) → n < length xs → ((k : ℕ) → k < n → get_or xs k 0 ≡ 10 → ⊥) → get_or xs n 0 ≡ 10
    → items_from begun (xs ++ more) ended ≡ line_then (without_cr (begun ++ take n xs)) (items (drop (n + 1) xs ++ more) ended)
items-line begun [] more n ended lt none is = absurd (omega arith)
items-line begun (x ∷ xs) more zero ended lt none is =
    let lf : x ≡ 10 = is in
    rw (lf, append-nil begun)
items-line begun (x ∷ xs) more (suc n) ended lt none is =
    let no : (x ≡ 10 → ⊥) = none 0 (omega arith) in
    let test : (x == 10) ≡ false = grind (arith, nat_tests) in
    let front : (begun ++ x ∷ []) ++ take n xs ≡ begun ++ x ∷ take n xs = append_assoc begun (x ∷ []) (take n xs) in
    let at : suc n + 1 ≡ suc (n + 1) = omega arith in
    rw (test, at, ← front) (items-line (begun ++ x ∷ []) xs more n ended (omega arith) (λ k lt' h. none (suc k) (omega arith) h) is)

-- without an LF there is the last line alone
pub items-last : (begun xs : List ℕ) → ((k : ℕ) → k < length xs → get_or xs k 0 ≡ 10 → ⊥) → items_from begun xs true ≡ last_line (begun ++ xs) true
items-last begun [] none = rw (append-nil begun)
items-last begun (x ∷ xs) none =
    let no : (x ≡ 10 → ⊥) = none 0 (omega arith) in
    let test : (x == 10) ≡ false = grind (arith, nat_tests) in
    let front : (begun ++ x ∷ []) ++ xs ≡ begun ++ x ∷ xs = append_assoc begun (x ∷ []) xs in
    rw (test, ← front) (items-last (begun ++ x ∷ []) xs (λ k lt' h. none (suc k) (omega arith) h))
