-- Words that are put while there is room, and the prefixes on top of the stack.
pub mod Settling
