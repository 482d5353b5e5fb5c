-- On lists and the units of characters.
use Rattle.std.proofs.Common.{◌≡◌, ℕ, List, [], ◌∷◌, ◌++◌, map, refl, sym, ap, ◌∙◌, append_assoc}
use Rattle.std.specs.Char.Escape.{encode_utf16}
use Rattle.bj_text.specs.Utf16.{utf16_of}

pub map_same : (xs : List ℕ) → map (λ c. c) xs ≡ xs
map_same [] = refl
map_same (x ∷ xs) = ap (λ t. x ∷ t) (map_same xs)

pub utf16_of-append : (cs ds : List ℕ) → utf16_of (cs ++ ds) ≡ utf16_of cs ++ utf16_of ds
utf16_of-append [] ds = refl
utf16_of-append (c ∷ cs) ds = ap (λ t. encode_utf16 c ++ t) (utf16_of-append cs ds) ∙ sym (append_assoc (encode_utf16 c) (utf16_of cs) (utf16_of ds))
