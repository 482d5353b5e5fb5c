-- What the code's operations leave of mathematical integers.
use Rattle.std.proofs.Common.{◌≡◌, ℕ, zero, suc, ◌+◌, ◌*◌, ◌-◌, ◌/◌, ◌%◌, ◌^◌, ◌<◌, ◌≤◌, Option, Some, None, refl, sym, ap, ◌∙◌, arith, subst}
use Rattle.std.specs.Prelude.{ℤ, pos, negsuc, ◌*ℤ◌, neg_ℤ, int_div, unsigned_abs}
use Rattle.std.specs.Int.{Width, w32, w64, int_wrap, int_wrapping_div, cast_unsigned, cast_signed, int_shl}
use Rattle.std.specs.Int.RustNames.{FitsSigned}
use Rattle.std.proofs.lemmas.Int.{to_z-of_z, wrapping_mul-bits, int_wrap-mul_right}
use Rattle.std.proofs.Math.Facts.{Fits-lt-pow, Fits-of_z}
use Rattle.std.proofs.Math.Pow.{pow-lt}
use Rattle.std.proofs.Math.Nat.{div-le_self}
use Rattle.bj_text.specs.Arith.{unless_zero, distance}

minus_abs : (n : ℕ) → unsigned_abs (neg_ℤ (pos n)) ≡ n
minus_abs zero = refl
minus_abs (suc n) = refl

-- a quotient is not longer than the dividend
quotient_short : (a b : ℤ) → unsigned_abs (int_div a b) ≤ unsigned_abs a
quotient_short (pos n) (pos d) = div-le_self n d
quotient_short (pos n) (negsuc d) = subst (λ m. m ≤ n) (sym (minus_abs (n / suc d))) (div-le_self n (suc d))
quotient_short (negsuc n) (pos d) = subst (λ m. m ≤ suc n) (sym (minus_abs (suc n / d))) (div-le_self (suc n) d)
quotient_short (negsuc n) (negsuc d) = div-le_self (suc n) (suc d)

-- a divisor is not 0
unless : (w : Width) (b x : ℤ) → (cast_unsigned w b ≡ 0 → ⊥) → unless_zero b x ≡ Some x
unless w (pos zero) x h = absurd (h refl)
unless w (pos (suc n)) x h = refl
unless w (negsuc n) x h = refl

-- an integer that is cut to the width is wrapped, if it is not too long
cut_wraps-int : (q : ℤ) → unsigned_abs q < 2 ^ 32 → cast_signed w32 (cast_unsigned w32 q) ≡ int_wrap w32 q
unfolding int_wrap
cut_wraps-int (pos n) h = ap (cast_signed w32) (omega arith)
cut_wraps-int (negsuc n) h = ap (cast_signed w32) (omega arith)

bits_wrap-int : (n : ℕ) → n < 2 ^ 32 → cast_signed w32 n ≡ int_wrap w32 (pos n)
unfolding int_wrap
bits_wrap-int n h = ap (cast_signed w32) (omega arith)

-- bits that are moved to the left are a product
pub shifted-int : (a : ℤ) (k : ℕ) → FitsSigned w32 a → k < 32 → int_wrap w32 (a *ℤ pos (2 ^ k)) ≡ int_shl w32 a k
shifted-int a k f h =
    let p : 2 ^ k < 2 ^ 32 = pow-lt h in
    sym (int_wrap-mul_right w32 a (pos (2 ^ k)))
    ∙ ap (λ b. int_wrap w32 (a *ℤ b)) (sym (bits_wrap-int (2 ^ k) p))
    ∙ ap (λ a. int_wrap w32 (a *ℤ cast_signed w32 (2 ^ k))) (sym (to_z-of_z w32 a f))
    ∙ sym (wrapping_mul-bits w32 (cast_unsigned w32 a) (2 ^ k) (Fits-lt-pow (Fits-of_z f)) p)

abs_fits-int : (a : ℤ) → FitsSigned w32 a → unsigned_abs a ≤ 2 ^ 31
abs_fits-int (pos n) f = let h : n < 2 ^ 31 = f.sfits in omega arith
abs_fits-int (negsuc n) f = let h : n < 2 ^ 31 = f.sfits in omega arith

pub quotient_is-int : (a b r : ℤ) → FitsSigned w32 a → FitsSigned w32 b → FitsSigned w32 r
    → r ≡ int_wrapping_div w32 (cast_signed w32 (cast_unsigned w32 a)) (cast_signed w32 (cast_unsigned w32 b)) → (cast_unsigned w32 b ≡ 0 → ⊥)
    → unless_zero b (int_wrap w32 (int_div a b)) ≡ Some (cast_signed w32 (cast_unsigned w32 r))
quotient_is-int a b r fa fb fr e nz =
    let short = quotient_short a b in
    let fits = abs_fits-int a fa in
    unless w32 b (int_wrap w32 (int_div a b)) nz
    ∙ ap Some (sym (to_z-of_z w32 r fr ∙ e
    ∙ ap (λ a. int_wrapping_div w32 a (cast_signed w32 (cast_unsigned w32 b))) (to_z-of_z w32 a fa)
    ∙ ap (λ b. int_wrapping_div w32 a b) (to_z-of_z w32 b fb)
    ∙ cut_wraps-int (int_div a b) (omega arith)))

-- an integer that is cut to the width is wrapped, if it is not too long
cut_wraps-long : (q : ℤ) → unsigned_abs q < 2 ^ 64 → cast_signed w64 (cast_unsigned w64 q) ≡ int_wrap w64 q
unfolding int_wrap
cut_wraps-long (pos n) h = ap (cast_signed w64) (omega arith)
cut_wraps-long (negsuc n) h = ap (cast_signed w64) (omega arith)

bits_wrap-long : (n : ℕ) → n < 2 ^ 64 → cast_signed w64 n ≡ int_wrap w64 (pos n)
unfolding int_wrap
bits_wrap-long n h = ap (cast_signed w64) (omega arith)

-- bits that are moved to the left are a product
pub shifted-long : (a : ℤ) (k : ℕ) → FitsSigned w64 a → k < 64 → int_wrap w64 (a *ℤ pos (2 ^ k)) ≡ int_shl w64 a k
shifted-long a k f h =
    let p : 2 ^ k < 2 ^ 64 = pow-lt h in
    sym (int_wrap-mul_right w64 a (pos (2 ^ k)))
    ∙ ap (λ b. int_wrap w64 (a *ℤ b)) (sym (bits_wrap-long (2 ^ k) p))
    ∙ ap (λ a. int_wrap w64 (a *ℤ cast_signed w64 (2 ^ k))) (sym (to_z-of_z w64 a f))
    ∙ sym (wrapping_mul-bits w64 (cast_unsigned w64 a) (2 ^ k) (Fits-lt-pow (Fits-of_z f)) p)

abs_fits-long : (a : ℤ) → FitsSigned w64 a → unsigned_abs a ≤ 2 ^ 63
abs_fits-long (pos n) f = let h : n < 2 ^ 63 = f.sfits in omega arith
abs_fits-long (negsuc n) f = let h : n < 2 ^ 63 = f.sfits in omega arith

pub quotient_is-long : (a b r : ℤ) → FitsSigned w64 a → FitsSigned w64 b → FitsSigned w64 r
    → r ≡ int_wrapping_div w64 (cast_signed w64 (cast_unsigned w64 a)) (cast_signed w64 (cast_unsigned w64 b)) → (cast_unsigned w64 b ≡ 0 → ⊥)
    → unless_zero b (int_wrap w64 (int_div a b)) ≡ Some (cast_signed w64 (cast_unsigned w64 r))
quotient_is-long a b r fa fb fr e nz =
    let short = quotient_short a b in
    let fits = abs_fits-long a fa in
    unless w64 b (int_wrap w64 (int_div a b)) nz
    ∙ ap Some (sym (to_z-of_z w64 r fr ∙ e
    ∙ ap (λ a. int_wrapping_div w64 a (cast_signed w64 (cast_unsigned w64 b))) (to_z-of_z w64 a fa)
    ∙ ap (λ b. int_wrapping_div w64 a b) (to_z-of_z w64 b fb)
    ∙ cut_wraps-long (int_div a b) (omega arith)))

pub shl_is-int : (a b r : ℤ) (x : ℕ) → FitsSigned w32 a → FitsSigned w32 r → x ≡ distance w32 b → r ≡ int_shl w32 (cast_signed w32 (cast_unsigned w32 a)) x
    → int_wrap w32 (a *ℤ pos (2 ^ distance w32 b)) ≡ cast_signed w32 (cast_unsigned w32 r)
shl_is-int a b r x fa fr ex er =
    let lt : distance w32 b < 32 = omega arith in
    shifted-int a (distance w32 b) fa lt ∙ ap (int_shl w32 a) (sym ex) ∙ ap (λ a. int_shl w32 a x) (sym (to_z-of_z w32 a fa)) ∙ sym er ∙ sym (to_z-of_z w32 r fr)

pub shl_is-long : (a b r : ℤ) (x : ℕ) → FitsSigned w64 a → FitsSigned w64 r → x ≡ distance w64 b → r ≡ int_shl w64 (cast_signed w64 (cast_unsigned w64 a)) x
    → int_wrap w64 (a *ℤ pos (2 ^ distance w64 b)) ≡ cast_signed w64 (cast_unsigned w64 r)
shl_is-long a b r x fa fr ex er =
    let lt : distance w64 b < 64 = omega arith in
    shifted-long a (distance w64 b) fa lt ∙ ap (int_shl w64 a) (sym ex) ∙ ap (λ a. int_shl w64 a x) (sym (to_z-of_z w64 a fa)) ∙ sym er ∙ sym (to_z-of_z w64 r fr)
