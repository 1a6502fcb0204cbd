-- What only contracts of private functions use. No public contract speaks of it, so nobody has to believe it.
pub mod EndOf
pub mod LinkEnds
pub mod LinkRules
pub mod UnusedLinks
pub mod FreeArcs
pub mod LinksOf
