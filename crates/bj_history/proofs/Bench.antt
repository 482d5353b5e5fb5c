-- The names on the bench differ, and are a thousand at most.
use Rattle.std.proofs.Common.{◌≡◌, ◌≢◌, ◌≤◌, ◌<◌, ◌||◌, ℕ, Bool, true, false, if◌then◌else◌, nat_le, List, [], ◌∷◌, ◌++◌, length, Option, Some, None, is_some, refl, sym, ap, ◌∙◌, subst, arith}
use Rattle.std.proofs.lemmas.Bool.{leb-false}
use Rattle.std.proofs.lemmas.List.{length-append}
use Rattle.bj_core.specs.declared.action.Action.{Action}
use Rattle.bj_core.specs.declared.action.Action.TheVariants.{End}
use Rattle.bj_core.specs.declared.action.Answer.{Answer}
use Rattle.bj_core.specs.declared.action.Done.{Done}
use Rattle.bj_core.specs.declared.action.Done.TheVariants.{Nothing, Value, Threw}
use Rattle.bj_core.specs.declared.entry.Entry.{Entry}
use Rattle.bj_core.specs.declared.entry.Entry.TheVariants.{Act, Line}
use Rattle.bj_core.specs.declared.types.Val.{Val}
use Rattle.bj_machine.specs.World.{Told, main_after, next_action}
use Rattle.bj_bench.specs.declared.names.BoundName.{BoundName}
use Rattle.bj_history.specs.declared.opening.Opening.{Opening}
use Rattle.bj_bench.specs.Names.{bound_name, value_in, binds, names_after, AreApart}
use Rattle.bj_history.specs.Names.{bound_by}
use Rattle.bj_history.specs.Replies.{After, LineOutcome}
use Rattle.bj_history.specs.History.{setting, after, after_line, started}
use Rattle.bj_bench.proofs.Apart.{apart_with}
use Rattle.bj_history.proofs.Outcomes.{of_line, line_case}

-- the name that is to be bound stands for nothing, and has room
abbrev pub HasRoom : Option (List ℕ) → List BoundName → Type 0
HasRoom None names = Unit {0}
HasRoom (Some name) names = (value_in names name ≡ None) × (length names < 1000)

-- the names on the bench, and the one that the main thread's term is to bind
pub record IsBench (name : Option (List ℕ)) (names : List BoundName) : Type 0 where
  pub apart : AreApart names
  pub few : length names ≤ 1000
  pub room : HasRoom name names

-- with nothing to bind
unbinding : {name : Option (List ℕ)} {names : List BoundName} → IsBench name names → IsBench None names
unbinding bench = record { apart = bench.apart; few = bench.few; room = tt }

-- the name is bound
binding : (name : List ℕ) (names : List BoundName) (v : Val) → IsBench (Some name) names → IsBench None (names ++ bound_name name v ∷ [])
binding name names v bench =
    let less = bench.room.1 in
    let one_more = length-append names (bound_name name v ∷ []) in
    record { apart = apart_with names name v bench.apart bench.room.0; few = omega arith; room = tt }

-- a term ends
bench_ended : (name : Option (List ℕ)) (done : Done) (names : List BoundName) → IsBench name names → IsBench None (names_after name (Some (End done)) names)
bench_ended None done names bench = bench
bench_ended (Some name) Nothing names bench = unbinding bench
bench_ended (Some name) (Value v) names bench = binding name names v bench
bench_ended (Some name) (Threw v) names bench = unbinding bench

-- the action ends no term
abbrev IsNoEnd : Option Action → Type 0
IsNoEnd (Some (End done)) = ⊥
IsNoEnd a = Unit {0}

-- only the end of a term binds a name
unbound : (name : Option (List ℕ)) (a : Option Action) (names : List BoundName) → IsNoEnd a → names_after name a names ≡ names
unbound None a names going = refl
unbound (Some name) (Some (End done)) names going = absurd going
unbound (Some name) a names going = refl

-- a term goes on
bench_going : (name : Option (List ℕ)) (a : Option Action) (names : List BoundName) → IsNoEnd a → IsBench name names → IsBench name (names_after name a names)
bench_going name a names going bench = subst (IsBench name) (sym (unbound name a names going)) bench

-- the main thread's action is answered
bench_acted : (told : Option Told) (a : Option Action) (x : Answer) (names : List BoundName) → IsBench (bound_by told) names → IsBench (bound_by (main_after a x told)) (names_after (bound_by told) a names)
bench_acted told (Some (End done)) x names bench = bench_ended (bound_by told) done names bench
bench_acted None a x names bench = bench
bench_acted (Some told) a x names bench = bench_going (binds told.term.kind) a names tt bench

-- a name that is not taken has room
untaken_room : (x : Option Val) (n : ℕ) → (is_some x || nat_le 1000 n) ≡ false → (x ≡ None) × (n < 1000)
untaken_room None n e = (refl, leb-false 1000 n e)
untaken_room (Some v) n e = absurd cc

-- a line comes
bench_line : (o : Opening) (line text : List ℕ) (s : After) → IsBench (bound_by s.world.main) s.names
    → IsBench (bound_by (after_line o line text s).world.main) (after_line o line text s).names
bench_line o line text s bench =
    line_case (λ (t : After). IsBench (bound_by t.world.main) t.names) o line text s bench
    (of_line (λ (x : LineOutcome). IsBench (bound_by (started x.term s.world).main) s.names) o line s (record {
      text = λ text. bench;
      read = λ form text. bench;
      opened = bench;
      started = λ term free none. subst (λ (name : Option (List ℕ)). IsBench name s.names) (sym none) (unbinding bench);
      bound = λ name e free untaken. record { apart = bench.apart; few = bench.few; room = untaken_room (value_in s.names name) (length s.names) untaken };
    }))

-- what holds of the bench after each history
pub bench_of : (o : Opening) (log : List Entry) → IsBench (bound_by (after o log).world.main) (after o log).names
bench_of o [] = record { apart = tt; few = omega arith; room = tt }
bench_of o (Act thread answer ∷ front) = let s = after o front in bench_acted s.world.main (next_action (setting o) s.world) answer s.names (bench_of o front)
bench_of o (Line line text ∷ front) = bench_line o line text (after o front) (bench_of o front)
bench_of o (e ∷ front) = bench_of o front
