mod GroupEntries
mod KeptPackets
