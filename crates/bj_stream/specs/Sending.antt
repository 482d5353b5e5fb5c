-- A piece that is sent, in whole or in part.
use Rattle.std.specs.Prelude.{ℕ, ◌≡◌, List, [], ◌++◌, Option}
use Rattle.bj_io.specs.Told.{behind}
use Rattle.bj_stream.specs.declared.sending.Sent.{Sent}
use Rattle.bj_stream.specs.declared.sending.Sent.TheVariants.{All}

-- a part of the bytes was put behind what was held, and with All no part is missing
pub record IsSent (answer : Sent) (bytes : List ℕ) (old new : Option (List ℕ)) : Type 0 where
  pub sent : List ℕ
  pub unsent : List ℕ
  pub parts : sent ++ unsent ≡ bytes
  pub held : new ≡ behind old sent
  pub all : answer ≡ All → unsent ≡ []
  pub none : bytes ≡ [] → answer ≡ All
