mod Framed
