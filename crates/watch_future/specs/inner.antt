pub mod AtContext
pub mod NotedAt
