pub mod Refusing
pub mod Statement
pub mod Inside
pub mod Executions
pub mod Laws
pub mod Making
pub mod BulkSets
