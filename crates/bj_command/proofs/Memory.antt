-- What takes memory to be read takes memory to be answered.
use Rattle.std.proofs.Common.{◌≡◌, true, Result, Ok, Err, refl}
use Rattle.bj_command.specs.declared.command.Command.{Command}
use Rattle.bj_command.specs.declared.command.Command.TheVariants.{Blank, Pad, New, Call, Inspect, Wait, Unbuilt, Quit}
use Rattle.bj_command.specs.declared.command.LineFault.{LineFault}
use Rattle.bj_command.specs.Words.{keeps_text, takes_memory}

pub kept_takes_memory : (form : Result Command LineFault) → keeps_text form ≡ true → takes_memory form ≡ true
kept_takes_memory (Ok Blank) e = absurd cc
kept_takes_memory (Ok (Pad text)) e = refl
kept_takes_memory (Ok (New name text)) e = refl
kept_takes_memory (Ok (Call text)) e = refl
kept_takes_memory (Ok (Inspect name)) e = refl
kept_takes_memory (Ok Wait) e = refl
kept_takes_memory (Ok Unbuilt) e = refl
kept_takes_memory (Ok Quit) e = absurd cc
kept_takes_memory (Err fault) e = refl
