pub mod RuleSteps
