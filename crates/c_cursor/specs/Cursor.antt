-- What a cursor shows.
use Rattle.std.specs.Prelude.{◌≤◌, ◌<◌, ◌^◌, length, drop}
use Rattle.c_cursor.specs.declared.cursor.Cursor.TheInside.{Inside}
use Rattle.c_cursor.specs.Input.{Input, lines_of}

abbrev pub input_of : Inside → Input
input_of c = record {
  rest = drop c.place c.tokens.now;
  state = record { scopes = c.names; typed = c.before.typed; typedef = c.before.typedef; behind = c.behind; place = c.place; lines = lines_of c.tokens.now };
}

pub record IsInside (c : Inside) : Type 0 where
  pub within : c.place ≤ length c.tokens.now
  pub few : length c.tokens.now < 2 ^ 32
