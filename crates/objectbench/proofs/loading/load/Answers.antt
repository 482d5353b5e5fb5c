use Rattle.std.proofs.Common.{◌≡◌, refl, sym, ◌∙◌}
use Rattle.bj_builtin.specs.Builtin.{builtin}
use Rattle.bj_history.specs.History.{loaded}
use Rattle.objectbench.proofs.loading.load.Goals as goal

-- the program that is loaded is the built-in one
is_loaded : loaded ≡ builtin
unfolding loaded
is_loaded = refl

pub returns-clause-program : goal.returns-clause-program
returns-clause-program c = c.in_ok-program.ensures ∙ sym is_loaded
