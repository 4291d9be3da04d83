pub mod Rules
pub mod AttributeReading
pub mod AttributesBack
pub mod AttributesHeld
