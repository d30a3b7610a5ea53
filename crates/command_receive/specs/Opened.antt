-- What the link, the port's line and the files are while FROM is begun and LAYERS is made: those of every reading.
pub use Rattle.packet_reading.specs.Opened.{KeepsLink, IsBoundTo, PrintedPort, IsUntouched, IsUnused, PortFailed}
