-- Kinds of values, and which value may take the place of which in a field.
use Rattle.std.specs.Prelude.{Bool, true, false}
use Rattle.bj_core.specs.declared.types.Val.{Val}
use Rattle.bj_core.specs.declared.types.Val.TheVariants as val

-- a primitive type's values, null, or references
pub data Kind : Type 0 where
  Ints : Kind
  Longs : Kind
  Booleans : Kind
  Chars : Kind
  Nulls : Kind
  References : Kind

abbrev pub kind_of : Val → Kind
kind_of (val.Int n) = Ints
kind_of (val.Long n) = Longs
kind_of (val.Bool b) = Booleans
kind_of (val.Char u) = Chars
kind_of val.Null = Nulls
kind_of (val.Ref object of) = References

-- a value may take the place of another in a field: both are of one primitive type, or null; no reference is stored yet
abbrev pub replaces : Val → Val → Bool
replaces (val.Int new) (val.Int old) = true
replaces (val.Long new) (val.Long old) = true
replaces (val.Bool new) (val.Bool old) = true
replaces (val.Char new) (val.Char old) = true
replaces val.Null val.Null = true
replaces new old = false
