-- Which modifiers a class, an interface or a member may have.
use Rattle.std.specs.Prelude.{◌≡◌, ◌⊎◌, Bool, true, false, ◌&&◌, ◌||◌, not, if◌then◌else◌, Option, None, Some, List, [], ◌∷◌, ◌++◌}
use Rattle.std.specs.List.{list_any, AllByRecursion, Contains}
use denote.Enum.Bare.{sameb}
use Rattle.bj_base.specs.declared.fault.FaultCode.TheVariants as codes
use Rattle.bj_tree.specs.declared.class.Modifier.{Modifier}
use Rattle.bj_tree.specs.declared.class.ModifierKind.{ModifierKind}
use Rattle.bj_tree.specs.declared.class.ModifierKind.TheVariants as m
use Rattle.bj_tree.specs.contracts.class.ModifierKind.{the_type}
use Rattle.bj_rules.specs.declared.misfit.Misfit.{Misfit}
use Rattle.bj_rules.specs.declared.place.Place.{Place}
use Rattle.bj_rules.specs.declared.place.Place.TheVariants as places
use Rattle.bj_rules.specs.Misfits.{first}

-- `==` on modifiers
unfoldable pub same_kind : ModifierKind → ModifierKind → Bool
same_kind = sameb the_type

-- whether a modifier is in a list
abbrev pub among : List ModifierKind → ModifierKind → Bool
among kinds kind = list_any (same_kind kind) kinds

-- the modifiers that a place takes
abbrev pub allowed : Place → List ModifierKind
allowed places.Class = m.Public ∷ m.Abstract ∷ m.Final ∷ []  -- JLS 8.1.1
allowed places.Interface = m.Public ∷ m.Abstract ∷ []  -- JLS 9.1.1
allowed places.Field = m.Public ∷ m.Protected ∷ m.Private ∷ m.Static ∷ m.Final ∷ m.Volatile ∷ []  -- JLS 8.3.1
allowed places.FieldOfInterface = m.Public ∷ m.Static ∷ m.Final ∷ []  -- JLS 9.3
allowed places.Method = m.Public ∷ m.Protected ∷ m.Private ∷ m.Abstract ∷ m.Static ∷ m.Final ∷ m.Synchronized ∷ []  -- JLS 8.4.3
allowed places.MethodOfInterface = m.Public ∷ m.Abstract ∷ m.Static ∷ []  -- JLS 9.4
allowed places.Constructor = m.Public ∷ m.Protected ∷ m.Private ∷ []  -- JLS 8.8.3

-- public, protected and private, of which at most one may stand [JLS 6.6, 8.3.1, 8.4.3, 8.8.3]
abbrev pub is_access : ModifierKind → Bool
is_access kind = among (m.Public ∷ m.Protected ∷ m.Private ∷ []) kind

-- two modifiers that may not stand together at a place, other than two of access
abbrev pub is_pair : Place → ModifierKind → ModifierKind → Bool
is_pair places.Class a b = same_kind a m.Abstract && same_kind b m.Final  -- JLS 8.1.1.2
is_pair places.Field a b = same_kind a m.Final && same_kind b m.Volatile  -- JLS 8.3.1.4
is_pair places.Method a b = same_kind a m.Abstract && among (m.Private ∷ m.Static ∷ m.Final ∷ m.Synchronized ∷ []) b  -- JLS 8.4.3
is_pair places.MethodOfInterface a b = same_kind a m.Abstract && same_kind b m.Static  -- JLS 9.4
is_pair place a b = false

-- whether two modifiers exclude each other at a place, in either order
abbrev pub exclude : Place → ModifierKind → ModifierKind → Bool
exclude place a b = is_access a && is_access b || (is_pair place a b || is_pair place b a)

-- whether a modifier fits behind those before it: it is none of them, one that the place takes, and none of them excludes it
abbrev pub fits : Place → List Modifier → ModifierKind → Bool
fits place before kind = not (list_any (λ (one : Modifier). same_kind kind one.kind) before) && (among (allowed place) kind && not (list_any (λ (one : Modifier). exclude place kind one.kind) before))

-- Java's `static` methods of interfaces [JLS 9.4] are left out of the profile
abbrev pub is_left_out : Place → ModifierKind → Bool
is_left_out places.MethodOfInterface kind = same_kind kind m.Static
is_left_out place kind = false

-- what is wrong with a modifier behind those before it
abbrev pub modifier_misfit : Place → List Modifier → Modifier → Option Misfit
modifier_misfit place before one =
    if not (fits place before one.kind) then Some (record { at = one.at; code = codes.Syntax })
    else if is_left_out place one.kind then Some (record { at = one.at; code = codes.Profile })
    else None

-- the first misfit of modifiers behind those before them
abbrev pub misfit_behind : Place → List Modifier → List Modifier → Option Misfit
misfit_behind place before [] = None
misfit_behind place before (one ∷ rest) = first (modifier_misfit place before one ∷ misfit_behind place (before ++ one ∷ []) rest ∷ [])

-- the first misfit of the modifiers of a place
abbrev pub modifiers_misfit : Place → List Modifier → Option Misfit
modifiers_misfit place modifiers = misfit_behind place [] modifiers

-- ---- what follows from that

-- no two of a list are so to each other, the first of them before the other
abbrev pub NoTwo : (ModifierKind → ModifierKind → Type 0) → List Modifier → Type 0
NoTwo So [] = Unit {0}
NoTwo So (one ∷ rest) = AllByRecursion (λ (other : Modifier). So one.kind other.kind → ⊥) rest × NoTwo So rest

-- The place takes each of the modifiers, none is repeated, and no two of them exclude each other.
pub record AreFit (place : Place) (modifiers : List Modifier) : Type 0 where
  pub taken : AllByRecursion (λ (one : Modifier). Contains (allowed place) one.kind) modifiers
  pub distinct : NoTwo (λ a b. a ≡ b) modifiers
  pub together : NoTwo (λ a b. exclude place a b ≡ true) modifiers

-- The misfit is of the first modifier that does not fit those before it, or that the profile leaves out: those before it have none.
pub record IsFirst (place : Place) (modifiers : List Modifier) (misfit : Misfit) : Type 0 where
  pub before : List Modifier
  pub one : Modifier
  pub rest : List Modifier
  pub parts : modifiers ≡ before ++ (one ∷ rest)
  pub none_before : modifiers_misfit place before ≡ None
  pub at : misfit.at ≡ one.at
  pub coded : ((misfit.code ≡ codes.Syntax) × (AreFit place (before ++ one ∷ []) → ⊥)) ⊎ ((misfit.code ≡ codes.Profile) × AreFit place (before ++ one ∷ []) × (is_left_out place one.kind ≡ true))
