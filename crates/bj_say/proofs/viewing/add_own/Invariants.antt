use Rattle.std.proofs.Common.{◌≡◌, ◌++◌, ◌+◌, length, drop}
use Rattle.bj_eval.specs.Fields.{of_objects}
use Rattle.bj_say.specs.Views.{own_rows, rows_text}
use Rattle.bj_say.proofs.viewing.add_own.Given as goal

abbrev pub invariant-loop-field : goal.invariant-loop-field
invariant-loop-field l = record {
  next : l.slot + length (of_objects (drop l.field-index l.fields)) ≡ l.first + length (of_objects l.fields);
  text : l.text ++ rows_text l.sight.program.now (own_rows l.sight.store.now l.sight.object l.class l.slot (drop l.field-index l.fields))
      ≡ l.fn.text ++ rows_text l.sight.program.now (own_rows l.sight.store.now l.sight.object l.class l.first l.fields);
}
