pub mod Writing
pub mod ExprPieces
pub mod StmtParts
pub mod ClassPieces
