pub mod LunsAfter
