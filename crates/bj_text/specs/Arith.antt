-- The arithmetic of `int` and `long`, at the width of the type. Values are mathematical integers.
use Rattle.std.specs.Prelude.{ℕ, zero, suc, ◌*◌, ◌/◌, ◌%◌, ◌^◌, ℤ, pos, negsuc, ◌+ℤ◌, ◌-ℤ◌, ◌*ℤ◌, neg_ℤ, int_div, int_rem, Option, Some, None}
use Rattle.std.specs.Int.{Width, w32, w64, int_wrap, int_bit_and, int_bit_or, int_bit_xor, int_shr, cast_unsigned, cast_signed}
use Rattle.bj_base.specs.declared.op.Op.{Op}
use Rattle.bj_base.specs.declared.op.Op.TheVariants.{Add, Sub, Mul, Div, Rem, Shl, Shr, Ushr, And, Or, Xor}

-- how many bits a value has
abbrev pub bits_of : Width → ℕ
bits_of w32 = 32
bits_of w64 = 64
bits_of w = 0

-- the lowest five bits of a distance for an `int`, the lowest six for a `long` [JLS 15.19]
abbrev pub distance : Width → ℤ → ℕ
distance w b = cast_unsigned w b % bits_of w

-- a result, but for a divisor 0 [JLS 15.17.2, 15.17.3]
abbrev pub unless_zero : ℤ → ℤ → Option ℤ
unless_zero (pos zero) result = None
unless_zero (pos (suc n)) result = Some result
unless_zero (negsuc n) result = Some result

-- what an operator gives: of the mathematical result the type keeps the low-order bits in two's complement [JLS 15.17.1,
-- 15.18.2]; `/` and `%` round toward zero [JLS 15.17.2, 15.17.3]; shifts move bits [JLS 15.19]; `&`, `|` and `^` work
-- bit by bit [JLS 15.22.1]
abbrev pub result_of : Width → Op → ℤ → ℤ → Option ℤ
result_of w Add a b = Some (int_wrap w (a +ℤ b))
result_of w Sub a b = Some (int_wrap w (a -ℤ b))
result_of w Mul a b = Some (int_wrap w (a *ℤ b))
result_of w Div a b = unless_zero b (int_wrap w (int_div a b))
result_of w Rem a b = unless_zero b (int_rem a b)
result_of w Shl a b = Some (int_wrap w (a *ℤ pos (2 ^ distance w b)))
result_of w Shr a b = Some (int_shr a (distance w b))
result_of w Ushr a b = Some (cast_signed w (cast_unsigned w a / 2 ^ distance w b))
result_of w And a b = Some (int_bit_and w a b)
result_of w Or a b = Some (int_bit_or w a b)
result_of w Xor a b = Some (int_bit_xor w a b)

-- of two `int`s
abbrev pub int_result : Op → ℤ → ℤ → Option ℤ
int_result = result_of w32

-- of two `long`s
abbrev pub long_result : Op → ℤ → ℤ → Option ℤ
long_result = result_of w64

-- minus an `int` [JLS 15.15.4]
abbrev pub int_negated : ℤ → ℤ
int_negated a = int_wrap w32 (neg_ℤ a)
