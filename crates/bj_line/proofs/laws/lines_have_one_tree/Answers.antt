use Rattle.bj_line.proofs.LineLaws.{one_line}
use Rattle.bj_line.proofs.laws.lines_have_one_tree.Goals as goal

pub returns : goal.returns
returns c = λ tokens a b left right. one_line tokens a b left right
