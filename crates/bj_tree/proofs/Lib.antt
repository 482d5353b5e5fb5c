pub mod StmtNodes
