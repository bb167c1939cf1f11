-- A file's types in its table, as functions: each gives the table after it, and what was made.
pub use Rattle.c_types.specs.Extensions.{Table, same_entry, place_of, placed, with_entry, part_with, with_type, count_if, count_of, extent_if, extent_of, extent_in, or_void, type_of_part, is_part, array_of, derived_once, derived_each, may_derive, derived, list_from, parameter_list, adjusted_as, adjusted, qualified_as, qualified, new_tag_type, is_open, completed}
