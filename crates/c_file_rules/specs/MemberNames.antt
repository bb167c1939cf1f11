-- The names of members, by which the code finds them.
use Rattle.std.specs.Prelude.{ℕ}
pub use Rattle.c_file_rules.specs.Indexes.{IsIndexOf}
use Rattle.c_file_rules.specs.declared.member_list.MemberSeen.{MemberSeen}

abbrev pub name_of_member : MemberSeen → ℕ
name_of_member m = m.name
