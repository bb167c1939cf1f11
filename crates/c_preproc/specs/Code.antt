-- What describes the code and not preprocessing: its table, its expander, its reader of conditions, and how its
-- types are seen as the definitions'.
pub mod Reading
pub mod NameFilter
pub mod Table
pub mod Expander
pub mod Defined
pub mod Seen
