-- What is wrong with a part of a class, and which of several such things comes first.
use Rattle.std.specs.Prelude.{Bool, if◌then◌else◌, Option, None, Some, List, [], ◌∷◌}
use Rattle.bj_base.specs.declared.span.Span.{Span}
use Rattle.bj_base.specs.declared.fault.FaultCode.{FaultCode}
use Rattle.bj_rules.specs.declared.misfit.Misfit.{Misfit}

-- a misfit, unless the test holds
abbrev pub unless : Bool → Span → FaultCode → Option Misfit
unless fits at code = if fits then None else Some (record { at = at; code = code })

-- the first misfit that there is, of these in order
abbrev pub first : List (Option Misfit) → Option Misfit
first [] = None
first (None ∷ rest) = first rest
first (Some misfit ∷ rest) = Some misfit
