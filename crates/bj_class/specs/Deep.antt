-- Which bodies and initializers of a class are too deep: on some way down are more nodes than there is room for. They are told by their height, and by the
-- place of a node at the end of such a way.
use Rattle.std.specs.Prelude.{ℕ, suc, ◌<◌, ◌⊎◌, List, [], ◌∷◌, map, Option, Some, None}
use Rattle.bj_base.specs.declared.span.Span.{Span}
use Rattle.bj_tree.specs.declared.stmt.VariableTree.{VariableTree}
use Rattle.bj_tree.specs.declared.stmt.StmtTree.{StmtTree}
use Rattle.bj_tree.specs.declared.member.MemberTree.{MemberTree}
use Rattle.bj_tree.specs.declared.member.MemberTree.TheVariants as m
use Rattle.bj_expr_tree.specs.Size.{most}
use Rattle.bj_stmt.specs.Heights.{stmt_height, variable_height}
use Rattle.bj_stmt.specs.Nodes.{StmtHasNode, SomeVariableHasNode}

-- a variable is a node above its initializer
abbrev pub HighVariables : ℕ → List VariableTree → Type 0
HighVariables room vs = suc room < most (map variable_height vs)

abbrev pub HighBody : ℕ → Option StmtTree → Type 0
HighBody room None = ⊥
HighBody room (Some b) = room < stmt_height b

abbrev pub HighMember : ℕ → MemberTree → Type 0
HighMember room (m.Field f) = HighVariables room f.variables
HighMember room (m.Method f) = HighBody room f.body
HighMember room (m.Constructor f) = room < stmt_height f.body
HighMember room (m.Initializer f) = room < stmt_height f.body
HighMember room (m.Empty at) = ⊥

abbrev pub HighMembers : ℕ → List MemberTree → Type 0
HighMembers room [] = ⊥
HighMembers room (a ∷ ms) = HighMember room a ⊎ HighMembers room ms

-- ---- by a node

abbrev pub DeepVariables : ℕ → Span → List VariableTree → Type 0
DeepVariables room at vs = SomeVariableHasNode (suc (suc room)) at vs

abbrev pub DeepBody : ℕ → Span → Option StmtTree → Type 0
DeepBody room at None = ⊥
DeepBody room at (Some b) = StmtHasNode (suc room) at b

abbrev pub DeepMember : ℕ → Span → MemberTree → Type 0
DeepMember room at (m.Field f) = DeepVariables room at f.variables
DeepMember room at (m.Method f) = DeepBody room at f.body
DeepMember room at (m.Constructor f) = StmtHasNode (suc room) at f.body
DeepMember room at (m.Initializer f) = StmtHasNode (suc room) at f.body
DeepMember room at (m.Empty place) = ⊥

abbrev pub DeepMembers : ℕ → Span → List MemberTree → Type 0
DeepMembers room at [] = ⊥
DeepMembers room at (a ∷ ms) = DeepMember room at a ⊎ DeepMembers room at ms
