-- What a test says of each terminal of a list it says of the one that is spelled so.
use Rattle.std.proofs.Common.{◌≡◌, ℕ, Bool, true, false, refl, List, [], ◌∷◌}
use Rattle.std.specs.Prelude.{◌&&◌, if◌then◌else◌}
use Rattle.std.specs.Str.{bytes_eq}
use Rattle.bj_grammar.specs.declared.terminal.Terminal.{Terminal}
use Rattle.bj_grammar.specs.declared.terminal.Terminal.TheVariants as t
use Rattle.bj_grammar.specs.Terminal.{spelling, spelled}

and_front : (a b : Bool) → (a && b) ≡ true → a ≡ true
and_front true b e = refl
and_front false b e = absurd (cc)

and_behind : (a b : Bool) → (a && b) ≡ true → b ≡ true
and_behind true b e = e
and_behind false b e = absurd (cc)

abbrev pub every : (Terminal → Bool) → List Terminal → Bool
every f [] = true
every f (k ∷ ks) = f k && every f ks

pub either : (P : Terminal → Type 0) (c : Bool) (x y : Terminal) → P x → P y → P (if c then x else y)
either P true x y hx hy = hx
either P false x y hx hy = hy

pub passes_spelled : (f : Terminal → Bool) (as_sign : Bool) (ks : List Terminal) (text : List ℕ) → f t.Other ≡ true → every f ks ≡ true → f (spelled as_sign ks text) ≡ true
passes_spelled f as_sign [] text none all = none
passes_spelled f as_sign (k ∷ ks) text none all =
    either (λ x. f x ≡ true) (bytes_eq text (spelling as_sign k)) k (spelled as_sign ks text) (and_front (f k) (every f ks) all) (passes_spelled f as_sign ks text none (and_behind (f k) (every f ks) all))
