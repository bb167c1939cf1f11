pub mod OneRefusal
