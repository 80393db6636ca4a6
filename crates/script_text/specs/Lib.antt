pub mod Heads
pub mod Layouts
pub mod LinePrinting
pub mod Printing
pub mod Texts
pub use Rattle.text_lines.specs.script_codec
pub use Rattle.text_lines
