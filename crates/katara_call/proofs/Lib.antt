mod RoomLemmas
mod KataraLemmas
mod FindLemmas
mod ShowLemmas
mod ShareLemmas
