use Rattle.bj_machine.proofs.machine.settle_thread.Goals as goal

pub moves-preserved : goal.moves-preserved
moves-preserved c =
    let on = c.moves.invariant.on in
    record {
      on = record { limit = on.limit; term = on.term; answers = on.answers; follows = c.in-Ok.ensures.follows on.limit on.term on.answers on.follows };
      follows = λ limit term answers f. c.in-Ok.ensures.follows limit term answers (c.moves.invariant.follows limit term answers f);
    }
