-- The kinds of forms of statements: what the functions that copy or count those of one kind are given.
use Rattle.bj_tree.specs.declared.stmt.StmtTree.{StmtTree}
use Rattle.bj_tree.specs.declared.stmt.StmtTree.TheOpen.{StmtTree-F}

-- a block, `;`, a declaration, an expression or a call of a constructor
abbrev pub IsPlain : StmtTree-F StmtTree → Type 0
IsPlain (StmtTree-F.Block at body end) = Unit {0}
IsPlain (StmtTree-F.Empty at) = Unit {0}
IsPlain (StmtTree-F.Local at is_final holds variables) = Unit {0}
IsPlain (StmtTree-F.Expression at value) = Unit {0}
IsPlain (StmtTree-F.ConstructorCall at is_super args) = Unit {0}
IsPlain form = ⊥

-- an `if`, a `switch` or a label in one
abbrev pub IsChoice : StmtTree-F StmtTree → Type 0
IsChoice (StmtTree-F.If at test body) = Unit {0}
IsChoice (StmtTree-F.IfElse at test body other) = Unit {0}
IsChoice (StmtTree-F.Switch at value members) = Unit {0}
IsChoice (StmtTree-F.Case at value) = Unit {0}
IsChoice (StmtTree-F.Default at) = Unit {0}
IsChoice form = ⊥

-- a `for`
abbrev pub IsFor : StmtTree-F StmtTree → Type 0
IsFor (StmtTree-F.For at init test update body) = Unit {0}
IsFor (StmtTree-F.ForEach at is_final holds name over body) = Unit {0}
IsFor form = ⊥

-- a `while`, a `do`, a labelled statement or a `synchronized`
abbrev pub IsHeaded : StmtTree-F StmtTree → Type 0
IsHeaded (StmtTree-F.While at test body) = Unit {0}
IsHeaded (StmtTree-F.Do at body test) = Unit {0}
IsHeaded (StmtTree-F.Labelled at label body) = Unit {0}
IsHeaded (StmtTree-F.Synchronized at lock body) = Unit {0}
IsHeaded (StmtTree-F.SynchronizedClass at class body) = Unit {0}
IsHeaded form = ⊥

-- a `break`, a `continue`, a `return` or a `throw`
abbrev pub IsJump : StmtTree-F StmtTree → Type 0
IsJump (StmtTree-F.Break at label) = Unit {0}
IsJump (StmtTree-F.Continue at label) = Unit {0}
IsJump (StmtTree-F.Return at value) = Unit {0}
IsJump (StmtTree-F.Throw at value) = Unit {0}
IsJump form = ⊥

-- a `try` or a catch of one
abbrev pub IsTry : StmtTree-F StmtTree → Type 0
IsTry (StmtTree-F.Try at body catches) = Unit {0}
IsTry (StmtTree-F.TryFinally at body catches finally) = Unit {0}
IsTry (StmtTree-F.Catch at is_final types name body) = Unit {0}
IsTry form = ⊥
