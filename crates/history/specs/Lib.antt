pub mod Events
pub mod Histories
pub mod Settings
pub mod Law
pub mod Slack
pub mod Lawful
pub mod Worked
