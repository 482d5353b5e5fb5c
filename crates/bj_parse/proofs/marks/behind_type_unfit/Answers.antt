use Rattle.std.proofs.Common.{[], sym, ap, ◌∙◌}
use Rattle.bj_expr_tree.specs.declared.types.TypeTree.{TypeTree}
use Rattle.bj_grammar.specs.Given.{text_of}
use Rattle.bj_grammar.specs.Reader.{Answer}
use Rattle.bj_parse.specs.Early.{first_unfit, typed_places}
use Rattle.bj_parse.proofs.marks.behind_type_unfit.Goals as goal

pub returns-in-Ok : goal.returns-in-Ok
returns-in-Ok c = c.typed_unfit-misfit.ensures c.in-Ok.tree
    ∙ ap (λ (r : Answer TypeTree). first_unfit (typed_places c.args.kind (text_of c.args.tokens.now) c.args.stop r) [] c.args.modifiers.now) (sym c.in-Ok.ensures)
