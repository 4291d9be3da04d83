-- What is no token.
pub use Rattle.mysql_queries.proofs.OneToken.{not_empty}
