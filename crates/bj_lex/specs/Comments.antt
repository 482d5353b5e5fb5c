-- Comments [JLS 3.7].
use Rattle.std.specs.Prelude.{ℕ, suc, ◌+◌, Bool, ◌&&◌, List, [], ◌∷◌, Option, Some, None, option_map, ◌==◌, if◌then◌else◌, slice_index}
use Rattle.bj_lex.specs.Characters.{is_line_end}
use Rattle.bj_lex.specs.declared.element.Element.{Element}
use Rattle.bj_lex.specs.declared.element.Element.TheVariants.{Blank, Fault}
use Rattle.bj_base.specs.declared.fault.FaultCode.TheVariants.{Open}

-- how many units stand before the first line end, or the end
unfoldable pub line_len : List ℕ → ℕ
line_len [] = 0
line_len (u ∷ us) = if is_line_end u then 0 else suc (line_len us)

-- `*/`
abbrev pub is_comment_end : ℕ → ℕ → Bool
is_comment_end u v = (u == 42) && (v == 47)

-- how many units there are through the first `*/`
unfoldable pub block_len : List ℕ → Option ℕ
block_len [] = None
block_len (u ∷ us) = if is_comment_end u (slice_index us 0) then Some 2 else option_map suc (block_len us)

-- a TraditionalComment behind its `/*`: Open where no `*/` follows
abbrev pub block_element : List ℕ → Element
block_element us = elim (block_len us) [ None ↦ Fault Open | Some n ↦ Blank (n + 2) ]

-- an EndOfLineComment behind its `//`
abbrev pub line_element : List ℕ → Element
line_element us = Blank (line_len us + 2)
