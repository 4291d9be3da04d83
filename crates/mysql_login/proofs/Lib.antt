pub mod ChangedUsersAgain
pub mod FieldsRead
pub mod PluginsRead
