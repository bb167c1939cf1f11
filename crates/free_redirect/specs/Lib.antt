pub mod VoidObject
