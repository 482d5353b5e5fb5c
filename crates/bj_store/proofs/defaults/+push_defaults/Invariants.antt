use Rattle.bj_store.proofs.defaults.+push_defaults.Given as goal

abbrev pub decreases-push_defaults : goal.decreases-push_defaults
decreases-push_defaults l = l.depth
