mod TimeFacts
