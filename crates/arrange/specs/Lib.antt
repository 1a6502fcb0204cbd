pub mod GraphText
pub mod RuleOf
pub mod Run
